use Rattle.std.proofs.Common.{refl, sym, ◌∙◌}
use Rattle.lc_reading.proofs.ObjectsRead.{none_if}
use Rattle.lc_reading.proofs.object.fill.Goals as goal

pub returns : goal.returns
returns g c = record {
  none = none_if c.args.list.now (sym c.is_some.ensures ∙ c.if-is_some.false);
  lines = c.in_ok-lines.lines.items;
  filled = refl;
  begins = c.in_ok-lines.ensures;
}
