use Rattle.std.proofs.Common.{ap, arith}
use Rattle.lc_walk.specs.Tally.{TallyModel}
use Rattle.lc_walk.proofs.Joining.{kept_grown}
use Rattle.lc_walk.proofs.tally.Tally.grow.Goals as goal

pub invariant_of-self-2 : goal.invariant_of-self-2
invariant_of-self-2 c =
    let same = ap (λ (t : TallyModel). t.totals.files) c.self.view_is in
    kept_grown (record { rows = c.self.inside.rows; totals = c.self.inside.totals }) c.gain.new.self c.args.key.now c.args.more
    c.add-self-inside.result c.self.invariant c.in_ok-gain.ensures.gains c.add-self-inside.ensures c.requires.modest
    (omega (arith, same, c.requires.files))
