use Rattle.lc_walk.proofs.Classes.{rows_fit}
use Rattle.lc_walk.proofs.tally.Tally.into_rows.Goals as goal

pub returns-clause-fits : goal.returns-clause-fits
returns-clause-fits c = rows_fit _ c.into_sorted.result.items c.self.invariant c.into_sorted.ensures
