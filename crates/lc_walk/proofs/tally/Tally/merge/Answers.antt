use Rattle.std.proofs.Common.{ap, arith, sym, subst}
use Rattle.lc_walk.specs.Tally.{StandsFor, TallyModel}
use Rattle.lc_walk.proofs.Joining.{kept_both, stands_both}
use Rattle.lc_walk.proofs.tally.Tally.merge.Goals as goal

pub invariant_of-result : goal.invariant_of-result
invariant_of-result c =
    let left = ap (λ (t : TallyModel). t.totals.files) c.self.view_is in
    let right = ap (λ (t : TallyModel). t.totals.files) c.other.view_is in
    kept_both (record { rows = c.self.inside.rows; totals = c.self.inside.totals })
    (record { rows = c.other.inside.rows; totals = c.other.inside.totals }) c.append.new.self c.add.result c.self.invariant
    c.other.invariant c.in_ok-append.ensures c.add.ensures (omega (arith, left, right, c.requires))

pub returns : goal.returns
returns c = λ fs gs left right.
    stands_both (record { rows = c.self.inside.rows; totals = c.self.inside.totals })
    (record { rows = c.other.inside.rows; totals = c.other.inside.totals })
    (record { rows = c.append.new.self; totals = c.add.result }) fs gs c.in_ok-append.ensures c.add.ensures
    (subst (λ t. StandsFor t fs) (sym c.self.view_is) left) (subst (λ t. StandsFor t gs) (sym c.other.view_is) right)
