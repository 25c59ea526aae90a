use Rattle.lc_rows.proofs.ViewLaws.{first_files_law}
use Rattle.lc_rows.proofs.laws.the_first_files_are_the_largest.Goals as goal

pub returns : goal.returns
returns c = first_files_law
