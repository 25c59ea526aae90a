use Rattle.std.proofs.Common.{◌+◌, true, slice_get, slice_set, Some, sym, ◌∙◌, ap, subst, arith, inl, inr}
use Rattle.lc_walk.specs.{Assembled.IsPlaced, Links.{AreLinked, IsPathAt}, RowViews.ChildModel}
use Rattle.lc_walk.proofs.Marking.{marks_skip, torn_twice, torn_low, torn_path, marks_set}
use Rattle.lc_walk.proofs.report.tree_check.link.Goals as goal

pub returns-then-number-eq0-clause-marks : goal.returns-then-number-eq0-clause-marks
returns-then-number-eq0-clause-marks c =
    marks_skip c.args.rows.now c.args.at c.args.place c.args.child.now c.args.linked.now c.requires.next
    (inl (omega (arith, c.if-number-eq0.true, ap (λ (m : ChildModel). m.number) c.child.view_is))) c.requires.marks

pub returns-then-number-rows-clause-marks : goal.returns-then-number-rows-clause-marks
returns-then-number-rows-clause-marks c =
    marks_skip c.args.rows.now c.args.at c.args.place c.args.child.now c.args.linked.now c.requires.next
    (inr (omega (arith, c.if-number-rows.true, ap (λ (m : ChildModel). m.number) c.child.view_is))) c.requires.marks

pub returns-then-is_marked-clause-torn : goal.returns-then-is_marked-clause-torn
returns-then-is_marked-clause-torn c = λ p.
    let same = ap (λ (m : ChildModel). m.number) c.child.view_is in
    torn_twice c.args.rows.now c.args.at c.args.place c.args.child.now c.args.linked.now c.requires.next
    (omega (arith, c.if-number-eq0.false, same))
    (ap (slice_get c.args.linked.now) (sym same) ∙ c.is_marked.ensures ∙ ap Some c.if-is_marked.true) c.requires.marks
    (subst (IsPlaced c.args.rows.now) same p)

pub returns-then-at-number-clause-torn : goal.returns-then-at-number-clause-torn
returns-then-at-number-clause-torn c = λ p.
    let same = ap (λ (m : ChildModel). m.number) c.child.view_is in
    torn_low c.args.rows.now c.args.at c.args.place c.args.child.now c.requires.next
    (omega (arith, c.if-number-eq0.false, same)) (omega (arith, c.if-number-rows.false, same))
    (omega (arith, c.if-at-number.true, same)) (subst (IsPlaced c.args.rows.now) same p)

pub returns-then-not-is_child_path-clause-torn : goal.returns-then-not-is_child_path-clause-torn
returns-then-not-is_child_path-clause-torn c = λ p.
    let same = ap (λ (m : ChildModel). m.number) c.child.view_is in
    torn_path c.args.rows.now c.args.at c.args.place c.args.child.now c.path_at.result.now c.path_at-path.result.now c.requires.next
    c.path_at.ensures
    (subst (λ k. IsPathAt c.args.rows.now k c.path_at-path.result.now) same c.path_at-path.ensures)
    (omega (arith, c.if-number-eq0.false, same)) (c.is_child_path.ensures.other c.if-not-is_child_path.true)
    (subst (IsPlaced c.args.rows.now) same p)

pub returns-clause-marks : goal.returns-clause-marks
returns-clause-marks c =
    let same = ap (λ (m : ChildModel). m.number) c.child.view_is in
    subst (λ k. AreLinked c.args.rows.now c.args.at (c.args.place + 1) (slice_set c.args.linked.now k true)) (sym same)
    (marks_set c.args.rows.now c.args.at c.args.place c.args.child.now c.path_at.result.now c.path_at-path.result.now c.args.linked.now
    c.requires.next c.path_at.ensures
    (subst (λ k. IsPathAt c.args.rows.now k c.path_at-path.result.now) same c.path_at-path.ensures)
    (omega (arith, c.if-number-eq0.false, same)) (omega (arith, c.if-number-rows.false, same)) (omega (arith, c.if-at-number.false, same))
    (ap (slice_get c.args.linked.now) (sym same) ∙ c.is_marked.ensures ∙ ap Some c.if-is_marked.false)
    (c.is_child_path.ensures.is c.if-not-is_child_path.false) c.requires.marks)
