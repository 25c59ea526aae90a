use Rattle.std.proofs.Common.{◌∙◌, ap, map, sym, take_all, ℕ, List, Bor}
use Rattle.std.specs.List.{list_any}
use Rattle.lc_arguments.specs.Words.{is_bad_part, part_of}
use Rattle.lc_arguments.proofs.{AskedPaths.{one_misplaced, paths_lent, some_bad}, Misnaming.refused_for}
use Rattle.lc_arguments.proofs.paths.paths_of.Goals as goal

pub returns-then-is_bad_part : goal.returns-then-is_bad_part
returns-then-is_bad_part c =
    refused_for _ c.refused.result c.refused.ensures
    (one_misplaced c.args.words.now c.loop-word.word-index _ c.loop-word-test.true
    (ap is_bad_part (sym c.part_of-path.ensures) ∙ sym c.if-is_bad_part.ensures))

pub returns : goal.returns
returns c =
    let words = c.args.words.now in
    let all = take_all c.loop-word.word-index words c.loop-word-test.false in (
      c.loop-word.invariant.0 ∙ ap (map (λ (word : Bor (List ℕ)). part_of word.now)) all ∙ paths_lent words,
      sym (some_bad words) ∙ ap (list_any (λ (word : Bor (List ℕ)). is_bad_part (part_of word.now))) (sym all) ∙ c.loop-word.invariant.1,
    )
