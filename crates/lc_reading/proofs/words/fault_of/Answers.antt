use Rattle.lc_reading.proofs.WordTables.{fault_found}
use Rattle.lc_reading.proofs.words.fault_of.Goals as goal

pub returns : goal.returns
returns c = fault_found c.args.word.now c.first_fault.result c.first_fault.ensures
