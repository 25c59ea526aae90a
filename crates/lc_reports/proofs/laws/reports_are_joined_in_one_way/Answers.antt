use Rattle.lc_reports.proofs.OneReport.{join_once}
use Rattle.lc_reports.proofs.laws.reports_are_joined_in_one_way.Goals as goal

pub returns : goal.returns
returns c = join_once
