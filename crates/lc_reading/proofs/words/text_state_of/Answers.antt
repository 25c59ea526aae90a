use Rattle.lc_reading.proofs.WordTables.{state_found}
use Rattle.lc_reading.proofs.words.text_state_of.Goals as goal

pub returns : goal.returns
returns c = state_found c.args.word.now c.first_state.result c.first_state.ensures
