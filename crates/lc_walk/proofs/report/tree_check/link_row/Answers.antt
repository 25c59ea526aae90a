use Rattle.std.proofs.{Common.{◌≡◌, length, ◌∙◌, ap, subst, arith, refl}, lemmas.Option.slice_get_read}
use Rattle.lc_walk.specs.{Rows.{row_of, children_in}, Links.AreLinked}
use Rattle.lc_walk.proofs.Marking.{marks_row}
use Rattle.lc_walk.proofs.report.tree_check.link_row.Goals as goal

pub returns-clause-marks : goal.returns-clause-marks
returns-clause-marks c =
    let own : c.children_of-children.result.now ≡ children_in (row_of c.index-rows-at.result) = c.children_of-children.ensures
    ∙ ap children_in c.row_of.ensures in
    let long = ap length own in
    let here : c.loop-place.place ≡ length (children_in (row_of c.index-rows-at.result)) = omega
    (arith, c.loop-place-test.false, c.loop-place.auto.place-end, long) in
    marks_row c.args.rows.now c.args.at c.index-rows-at.result c.loop-place.linked
    (slice_get_read c.args.rows.now (length c.args.rows.now) c.args.at c.index-rows-at.result refl c.requires.at c.index-rows-at.is)
    (subst (λ n. AreLinked c.args.rows.now c.args.at n c.loop-place.linked) here c.loop-place.invariant)
