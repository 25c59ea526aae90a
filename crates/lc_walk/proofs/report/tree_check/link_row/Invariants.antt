use Rattle.lc_walk.specs.Links.{AreLinked}
use Rattle.lc_walk.proofs.report.tree_check.link_row.Given as goal

abbrev pub invariant-loop-place : goal.invariant-loop-place
invariant-loop-place l = AreLinked l.rows l.at l.place l.linked
