use Rattle.lc_reports.proofs.NamedPaths.{named_rules}
use Rattle.lc_reports.proofs.laws.rules_of_a_named_report_are_in_named_files.Goals as goal

pub returns : goal.returns
returns c = named_rules
