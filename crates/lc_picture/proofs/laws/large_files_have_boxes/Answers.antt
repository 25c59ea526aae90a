use Rattle.lc_picture.proofs.LargeFiles.{large_law}
use Rattle.lc_picture.proofs.laws.large_files_have_boxes.Goals as goal

pub returns : goal.returns
returns c = large_law
