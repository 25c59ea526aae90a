use Rattle.std.proofs.Common.{◌≤◌, length, take}
use Rattle.lc_rules.specs.AttrStates.{by_lines}
use Rattle.lc_rules.proofs.Deciding.{Passes}
use Rattle.lc_rules.proofs.resolver.decide_by_lines.Given as goal

abbrev pub invariant-lines : goal.invariant-lines
invariant-lines l = record {
  within : l.below ≤ length l.table.lines;
  passes : Passes l.query (by_lines l.table.lines l.path l.is_dir) l.initial.resolver
      (by_lines (take l.below l.table.lines) l.path l.is_dir) l.resolver;
}

abbrev pub decreases-lines : goal.decreases-lines
decreases-lines l = l.below
