use Rattle.std.proofs.Common.{length, ◌-◌, ◌≡◌, ◌≤◌, take, drop}
use Rattle.lc_rules.specs.IgnoreRules.{without_spaces}
use Rattle.lc_rules.proofs.LineEnds.{after}
use Rattle.lc_rules.proofs.ignore_line.without_spaces.Given as goal

abbrev pub invariant-units : goal.invariant-units
invariant-units l = record {
  kept : l.kept ≤ l.read;
  read : l.read ≤ length l.line;
  same : without_spaces l.line ≡ after (take l.kept l.line) (take l.read l.line) (without_spaces (drop l.read l.line));
}

abbrev pub decreases-units : goal.decreases-units
decreases-units l = length l.line - l.read
