use Rattle.std.proofs.Common.{bytes_eq, ap, sym, ◌∙◌}
use Rattle.lc_picture.proofs.Steps.{first_row, later_row}
use Rattle.lc_picture.proofs.colours.next_place.Goals as goal

pub returns-then-eq : goal.returns-then-eq
returns-then-eq c =
    first_row c.args.directory.now c.index-kinds-place.result _ c.args.kinds.now _ c.loop-place.place c.loop-place-test.true
    c.index-kinds-place.is
    (sym (ap (bytes_eq c.args.directory.now) c.path_of.ensures) ∙ sym c.eq.ensures ∙ c.if-eq.true) c.loop-place.invariant

pub loop-place-preserved : goal.loop-place-preserved
loop-place-preserved c =
    later_row c.args.directory.now c.index-kinds-place.result _ c.args.kinds.now _ c.loop-place.place c.loop-place-test.true
    c.index-kinds-place.is
    (sym (ap (bytes_eq c.args.directory.now) c.path_of.ensures) ∙ sym c.eq.ensures ∙ c.if-eq.false) c.loop-place.invariant
