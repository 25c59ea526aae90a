use Rattle.lc_board.proofs.RowsOfWorkers.{few_numbers}
use Rattle.lc_board.proofs.laws.few_numbers.Goals as goal

pub returns-clause-numbers : goal.returns-clause-numbers
returns-clause-numbers g c = few_numbers
