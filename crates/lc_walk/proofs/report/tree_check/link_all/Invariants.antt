use Rattle.lc_walk.specs.Links.{AreLinked}
use Rattle.lc_walk.proofs.report.tree_check.link_all.Given as goal

abbrev pub invariant-loop-at : goal.invariant-loop-at
invariant-loop-at l = AreLinked l.rows l.at 0 l.linked.items
