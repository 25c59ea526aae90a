use Rattle.lc_formats.proofs.LastCells.{hidden_there, shown_there}
use Rattle.lc_formats.proofs.widths.shown_cells.Goals as goal

pub returns-then-branch : goal.returns-then-branch
returns-then-branch c =
    shown_there c.args.cells.now c.count.count _ c.in_ok-is_shown.field-0 c.count-test.true c.count.invariant.0 c.in_ok-is_shown.ensures
    c.if-branch.true c.count.invariant.1

pub count-preserved : goal.count-preserved
count-preserved c =
    hidden_there c.args.cells.now c.count.count _ c.in_ok-is_shown.field-0 c.count-test.true c.count.invariant.0 c.in_ok-is_shown.ensures
    c.if-branch.false c.count.invariant.1
