use Rattle.lc_laws.proofs.ReportSheets.{readable_law}
use Rattle.lc_laws.proofs.printed_laws.sheets_of_reports_are_readable.Goals as goal

pub returns : goal.returns
returns c = readable_law
