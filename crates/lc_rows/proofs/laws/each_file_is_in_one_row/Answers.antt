use Rattle.lc_rows.proofs.DirectoryLaws.{one_row_law}
use Rattle.lc_rows.proofs.laws.each_file_is_in_one_row.Goals as goal

pub returns : goal.returns
returns c = one_row_law
