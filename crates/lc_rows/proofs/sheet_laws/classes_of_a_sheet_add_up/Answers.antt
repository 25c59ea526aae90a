use Rattle.lc_rows.proofs.SheetLawProofs.{sheet_classes_law}
use Rattle.lc_rows.proofs.sheet_laws.classes_of_a_sheet_add_up.Goals as goal

pub returns : goal.returns
returns c = sheet_classes_law
