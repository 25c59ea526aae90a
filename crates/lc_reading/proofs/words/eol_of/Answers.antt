use Rattle.lc_reading.proofs.WordTables.{eol_found}
use Rattle.lc_reading.proofs.words.eol_of.Goals as goal

pub returns : goal.returns
returns c = eol_found c.args.word.now c.first_eol.result c.first_eol.ensures
