use Rattle.std.proofs.Common.{rules, ◌≡◌, Some, arith, ap}
use Rattle.lc_board.specs.{PlainBoard.{Adds, held_by}, RecordedBoard.held_count, Ending.end_event}
use Rattle.lc_board.proofs.RecordedSteps.{records, if_some, held_count-freed}
use Rattle.lc_board.proofs.locked.recorded.Recorded.end.Goals as goal

pub push_reserved-requires : goal.push_reserved-requires
push_reserved-requires g c =
    let had : held_by c.self.inside.plain c.args.worker ≡ Some c.args.number = search rules in
    let freed = held_count-freed c.self.inside.plain.held c.args.worker c.args.number had in
    omega (arith, freed, c.self.invariant.ends_fit)

pub invariant_of-self : goal.invariant_of-self
invariant_of-self g c =
    let had : held_by c.self.inside.plain c.args.worker ≡ Some c.args.number = search rules in
    let freed = held_count-freed c.self.inside.plain.held c.args.worker c.args.number had in
    let adds = if_some _ _ (λ p. Adds c.self.inside.plain
    (end_event c.args.worker p c.args.ended) c.end.new.self) had c.end.ensures.event in
    let held = ap held_count c.end.ensures.free in
    record {
      recorded = rw (c.push_reserved.ensures.items, c.event_of_end-event.ensures)
          (records _ _ (end_event c.args.worker c.args.number c.args.ended) c.self.inside.history.items c.self.invariant.recorded adds);
      ends_fit = omega (arith, freed, held, c.self.invariant.ends_fit);
      few = omega (arith, adds.workers, c.self.invariant.few);
    }
