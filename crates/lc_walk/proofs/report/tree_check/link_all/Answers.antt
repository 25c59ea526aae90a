use Rattle.std.proofs.Common.{◌≡◌, length, subst, arith}
use Rattle.lc_walk.specs.Links.{AreLinked}
use Rattle.lc_walk.proofs.report.tree_check.link_all.Goals as goal

pub returns-clause-marks : goal.returns-clause-marks
returns-clause-marks c =
    let here : c.loop-at.at ≡ length c.args.rows.now = omega (arith, c.loop-at-test.false, c.loop-at.auto.at-end) in
    subst (λ n. AreLinked c.args.rows.now n 0 c.loop-at.linked.items) here c.loop-at.invariant
