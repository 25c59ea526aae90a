use Rattle.std.proofs.Common.{◌≡◌}
use Rattle.lc_reports.specs.Sums.{needed_reports}
use Rattle.lc_reports.proofs.summing.needed_reports.Given as goal

abbrev pub invariant-loop-part : goal.invariant-loop-part
invariant-loop-part l = l.reports.items ≡ needed_reports l.needs l.yielded
