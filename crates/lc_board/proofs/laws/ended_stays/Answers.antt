use Rattle.lc_board.proofs.EndedNumbers.{ended_stays}
use Rattle.lc_board.proofs.laws.ended_stays.Goals as goal

pub returns : goal.returns
returns g c = ended_stays
