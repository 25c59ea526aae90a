use Rattle.lc_laws.proofs.SheetRecords.{sheet_columns}
use Rattle.lc_laws.proofs.printed_laws.sheets_of_reports_have_records.Goals as goal

pub returns : goal.returns
returns c = sheet_columns
