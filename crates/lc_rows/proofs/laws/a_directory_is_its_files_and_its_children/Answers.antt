use Rattle.lc_rows.proofs.ChildrenLaw.{children_law}
use Rattle.lc_rows.proofs.laws.a_directory_is_its_files_and_its_children.Goals as goal

pub returns : goal.returns
returns c = children_law
