use Rattle.lc_rows.proofs.SheetLawProofs.{sheet_totals_law}
use Rattle.lc_rows.proofs.sheet_laws.rows_of_a_sheet_add_up.Goals as goal

pub returns : goal.returns
returns c = sheet_totals_law
