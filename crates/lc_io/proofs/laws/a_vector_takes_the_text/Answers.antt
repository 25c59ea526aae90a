use Rattle.lc_io.proofs.Taking.{appends_text, appends_in_pieces}
use Rattle.lc_io.proofs.laws.a_vector_takes_the_text.Goals as goal

pub returns-clause-whole : goal.returns-clause-whole
returns-clause-whole c = appends_text

pub returns-clause-in_pieces : goal.returns-clause-in_pieces
returns-clause-in_pieces c = appends_in_pieces
