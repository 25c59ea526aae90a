use Rattle.std.proofs.Common.{length}
use Rattle.lc_reports.proofs.NumbersInTurn.{AddUpTo}
use Rattle.lc_reports.proofs.gathered.Numbers.of.Given as goal

abbrev pub invariant-reports : goal.invariant-reports
invariant-reports l = AddUpTo l.numbers l.rest l.fn.reports

abbrev pub decreases-reports : goal.decreases-reports
decreases-reports l = length l.rest
