use Rattle.lc_rows.proofs.SheetParts.{class_parts_law, sheet_parts_law}
use Rattle.lc_rows.proofs.sheet_laws.no_line_of_a_sheet_is_over_its_whole.Goals as goal

pub returns-clause-rows : goal.returns-clause-rows
returns-clause-rows c = sheet_parts_law

pub returns-clause-totals : goal.returns-clause-totals
returns-clause-totals c = class_parts_law
