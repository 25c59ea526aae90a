use Rattle.lc_picture.proofs.{ChainDepths.depths_law, ChainLaws.chains_law}
use Rattle.lc_picture.proofs.laws.a_chain_is_its_last_directory.Goals as goal

pub returns-clause-ends : goal.returns-clause-ends
returns-clause-ends c = chains_law

pub returns-clause-depths : goal.returns-clause-depths
returns-clause-depths c = depths_law
