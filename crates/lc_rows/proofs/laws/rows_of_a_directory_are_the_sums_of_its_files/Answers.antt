use Rattle.lc_rows.proofs.DirectoryLaws.{directories_law}
use Rattle.lc_rows.proofs.laws.rows_of_a_directory_are_the_sums_of_its_files.Goals as goal

pub returns : goal.returns
returns c = directories_law
