use Rattle.lc_formats.proofs.ShareLawProofs.{nearest_law, parts_law, whole_law}
use Rattle.lc_formats.proofs.table_laws.shares_are_of_the_whole.Goals as goal

pub returns-clause-nearest : goal.returns-clause-nearest
returns-clause-nearest c = nearest_law

pub returns-clause-whole : goal.returns-clause-whole
returns-clause-whole c = whole_law

pub returns-clause-parts : goal.returns-clause-parts
returns-clause-parts c = parts_law
