use Rattle.lc_walk.proofs.Classes.{classes_fit}
use Rattle.lc_rows.proofs.kept.sums_of.Goals as goal

pub returns-in-None-clause-overflow : goal.returns-in-None-clause-overflow
returns-in-None-clause-overflow c = λ fits. c.in-None.ensures (classes_fit c.args.rows.now fits)
