use Rattle.std.proofs.Common.{rules, vec_len, vec_capacity, ◌≤◌, ◌+◌, arith}
use Rattle.lc_board.specs.declared.event.Event.TheVariants.{Claim, Over}
use Rattle.lc_board.proofs.RecordedSteps.{records, held_count-most}
use Rattle.lc_board.proofs.locked.recorded.Recorded.claim.Goals as goal

pub invariant_of-self-in-Got : goal.invariant_of-self-in-Got
invariant_of-self-in-Got g c =
    let told = rw c.in-Got.is at c.claim-answer.ensures in
    let room : vec_len c.reserve.new.self + (c.workers-workers.result + 1) ≤ vec_capacity c.reserve.new.self = search rules in
    let most = held_count-most c.claim-answer.new.self.held in
    record {
      recorded = rw (c.push_reserved.ensures.items, c.reserve.ensures.items)
          (records _ _
          (Claim c.args.worker c.in-Got.number c.in-Got.field-1) c.self.inside.history.items c.self.invariant.recorded told.1);
      ends_fit = omega (arith, most, told.1.workers, c.self.invariant.few);
      few = omega (arith, told.1.workers, c.self.invariant.few);
    }

pub invariant_of-self-in-Over : goal.invariant_of-self-in-Over
invariant_of-self-in-Over g c =
    let told = rw c.in-Over.is at c.claim-answer.ensures in
    let room : vec_len c.reserve.new.self + (c.workers-workers.result + 1) ≤ vec_capacity c.reserve.new.self = search rules in
    let most = held_count-most c.claim-answer.new.self.held in
    record {
      recorded = rw (c.push_reserved-in-Over.ensures.items, c.reserve.ensures.items)
          (records _ _ (Over c.args.worker) c.self.inside.history.items c.self.invariant.recorded told.2);
      ends_fit = omega (arith, most, told.2.workers, c.self.invariant.few);
      few = omega (arith, told.2.workers, c.self.invariant.few);
    }
