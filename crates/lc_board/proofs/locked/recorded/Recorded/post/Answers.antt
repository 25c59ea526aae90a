use Rattle.std.proofs.Common.{rules, vec_len, vec_capacity, ◌≡◌, ◌≤◌, ◌+◌, Some, arith}
use Rattle.lc_board.specs.{PlainBoard.{Adds, held_by}, declared.event.Event.TheVariants.Post}
use Rattle.lc_board.proofs.RecordedSteps.{records, if_some, held_count-most}
use Rattle.lc_board.proofs.locked.recorded.Recorded.post.Goals as goal

pub invariant_of-self-in-Ok : goal.invariant_of-self-in-Ok
invariant_of-self-in-Ok g c =
    let told = rw c.in-Ok.is at c.post.ensures in
    let had : held_by c.self.inside.plain c.args.worker ≡ Some c.args.parent = search rules in
    let adds = if_some _ _ (λ p. Adds c.self.inside.plain (Post c.args.worker p c.in-Ok.number c.args.job) c.post.new.self) had told.1 in
    let room : vec_len c.reserve.new.self + (c.workers-workers.result + 1) ≤ vec_capacity c.reserve.new.self = search rules in
    let most = held_count-most c.post.new.self.held in
    record {
      recorded = rw (c.push_reserved.ensures.items, c.reserve.ensures.items)
          (records _ _
          (Post c.args.worker c.args.parent c.in-Ok.number c.args.job) c.self.inside.history.items c.self.invariant.recorded adds);
      ends_fit = omega (arith, most, adds.workers, c.self.invariant.few);
      few = omega (arith, adds.workers, c.self.invariant.few);
    }
