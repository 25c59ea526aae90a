use Rattle.std.proofs.Common.{slice_get, Some, sym, ◌∙◌, ap, arith}
use Rattle.lc_walk.proofs.Marking.{torn_unnamed, all_placed, no_length}
use Rattle.lc_walk.proofs.report.tree_check.check_tree.Goals as goal

pub returns-then-not-is_marked-clause-torn : goal.returns-then-not-is_marked-clause-torn
returns-then-not-is_marked-clause-torn c =
    torn_unnamed c.args.rows.now c.loop-number.number c.in_ok-linked.linked.items (omega (arith, c.loop-number.auto.number))
    (omega (arith, c.loop-number-test.true))
    (ap (λ l. slice_get l c.loop-number.number) (sym c.deref.ensures.value) ∙ c.is_marked.ensures ∙ ap Some c.if-not-is_marked.true)
    c.in_ok-linked.ensures.marks

pub returns-clause-placed : goal.returns-clause-placed
returns-clause-placed c =
    all_placed c.args.rows.now c.in_ok-linked.linked.items c.path_at.ensures.row c.path_at.ensures.is
    (c.path_at.ensures.path_is ∙ no_length c.path_at.result.now (omega (arith, c.if-path_at-gt0.false))) c.in_ok-linked.ensures.marks
    (λ k some low. c.loop-number.invariant k some (omega (arith, c.loop-number-test.false)))
