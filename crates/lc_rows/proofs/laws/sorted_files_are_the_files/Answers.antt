use Rattle.lc_rows.proofs.ViewLaws.{sorted_files_law}
use Rattle.lc_rows.proofs.laws.sorted_files_are_the_files.Goals as goal

pub returns : goal.returns
returns c = sorted_files_law
