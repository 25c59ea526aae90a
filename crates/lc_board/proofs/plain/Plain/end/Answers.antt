use Rattle.std.proofs.Common.{arith}
use Rattle.lc_board.proofs.{PlainSound.sound_end, PlainReplies.{held_here, end_ok, holder}}
use Rattle.lc_board.proofs.plain.Plain.end.Goals as goal

pub index_mut-requires : goal.index_mut-requires
index_mut-requires g c =
    let low = rw (← c.self.view_is) at c.requires.worker in
    let had = holder _ _ _ _ low c.index.ensures c.in-Some.is in
    let here = held_here _ _ _ _ c.self.invariant had in
    omega (arith, here.2, c.self.inside.cells.ok.0)

pub invariant_of-self : goal.invariant_of-self
invariant_of-self g c =
    let low = rw (← c.self.view_is) at c.requires.worker in
    let had = holder _ _ _ _ low c.index.ensures c.in-Some.is in
    let here = held_here _ _ _ _ c.self.invariant had in
    sound_end _ _ _ _ _ _ c.self.invariant low had here.2 here.1

pub returns-clause-event : goal.returns-clause-event
returns-clause-event g c =
    let low = rw (← c.self.view_is) at c.requires.worker in
    let had = holder _ _ _ _ low c.index.ensures c.in-Some.is in
    let may = rw (← c.self.view_is) at c.requires.may in
    rw (← c.self.view_is) (end_ok _ _ _ _ _ c.self.invariant had low may)
