use Rattle.lc_rows.proofs.SheetFiles.{sheet_files_law}
use Rattle.lc_rows.proofs.sheet_laws.files_of_a_sheet_are_the_first.Goals as goal

pub returns : goal.returns
returns c = sheet_files_law
