use Rattle.std.proofs.Common.{length, sym, ap, arith}
use Rattle.lc_formats.proofs.Widened.{wider-nil, length-fitted, cell_fitted}
use Rattle.lc_formats.proofs.widths.Widths.fit.Goals as goal

pub loop-column-init : goal.loop-column-init
loop-column-init c = sym (wider-nil c.args.self.now)

pub widen-requires : goal.widen-requires
widen-requires c =
    omega (
      arith,
      ap length c.loop-column.invariant,
      length-fitted c.args.self.now c.args.cells.now c.loop-column.column (omega (arith, c.loop-column-test.true)),
    )

pub loop-column-preserved : goal.loop-column-preserved
loop-column-preserved c =
    cell_fitted c.args.self.now c.loop-column.self c.widen.new.self c.args.cells.now c.loop-column.column c.in_ok-width.width _
    c.loop-column-test.true c.loop-column.invariant c.in_ok-width.ensures c.in_ok-widen.ensures
