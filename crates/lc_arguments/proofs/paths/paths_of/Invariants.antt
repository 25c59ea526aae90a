use Rattle.std.proofs.Common.{◌≡◌, false, map, take}
use Rattle.std.specs.List.{list_any}
use Rattle.lc_arguments.specs.Words.{is_bad_part, part_of}
use Rattle.lc_arguments.proofs.paths.paths_of.Given as goal

abbrev pub invariant-loop-word : goal.invariant-loop-word
invariant-loop-word l =
    (map (λ path. path.now) l.paths.items ≡ map (λ word. part_of word.now) (take l.word-index l.words))
    × (list_any (λ word. is_bad_part (part_of word.now)) (take l.word-index l.words) ≡ false)
