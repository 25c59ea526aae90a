use Rattle.lc_walk.proofs.Joining.{kept_none, stands_none}
use Rattle.lc_walk.proofs.tally.Tally.new.Goals as goal

pub invariant_of-result : goal.invariant_of-result
invariant_of-result c = kept_none c.new.result c.none.result c.new.ensures c.none.ensures

pub returns : goal.returns
returns c = stands_none c.new.result c.none.result c.new.ensures c.none.ensures
