use Rattle.std.proofs.Common.{◌≡◌, ◌++◌}
use Rattle.lc_reports.specs.Gathered.{IsGathered}
use Rattle.lc_reports.proofs.gathered.Gathered.of.Given as goal

abbrev pub invariant-loop-report : goal.invariant-loop-report
invariant-loop-report l =
    (l.yielded ++ l.report-iterator.rest.items ≡ l.fn.reports.items) × IsGathered l.lists l.yielded l.gathered
