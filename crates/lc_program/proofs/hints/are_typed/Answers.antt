use Rattle.std.proofs.{Common.{◌∙◌, sym}, lemmas.List.Folds.{list_all-map, list_all_at}}
use Rattle.lc_program.specs.Commands.{is_typed}
use Rattle.lc_program.proofs.hints.are_typed.Goals as goal

pub returns-then-not-branch : goal.returns-then-not-branch
returns-then-not-branch c =
    sym (list_all-map is_typed (λ p. p.now) c.args.paths.now
    ∙ list_all_at (λ p. is_typed p.now) c.args.paths.now c.loop-path.path-index _ c.loop-path-test.true
    (sym c.in_ok-is_typed.ensures ∙ c.if-not-branch.true))
