use Rattle.lc_formats.proofs.CommaLawProofs.{commas_law}
use Rattle.lc_formats.proofs.table_laws.numbers_with_commas_read_back.Goals as goal

pub returns : goal.returns
returns c = commas_law
