use Rattle.lc_picture.proofs.References.{tag_law, unescaped_law}
use Rattle.lc_picture.proofs.laws.names_are_never_markup.Goals as goal

pub returns-clause-no_tags : goal.returns-clause-no_tags
returns-clause-no_tags c = tag_law

pub returns-clause-reads_back : goal.returns-clause-reads_back
returns-clause-reads_back c = unescaped_law
