use Rattle.std.proofs.Common.{map, take}
use Rattle.lc_rules.specs.{Models.macro_model, LineNames.NameNone}
use Rattle.lc_rules.proofs.line_table.LineTable.may_name_some_in.Given as goal

abbrev pub invariant-loop-found : goal.invariant-loop-found
invariant-loop-found l = NameNone l.self.lines (map macro_model (take l.found-index l.defined))
