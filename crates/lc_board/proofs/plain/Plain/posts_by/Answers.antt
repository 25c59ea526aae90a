use Rattle.std.proofs.Common.{arith, sym, subst, ◌∙◌}
use Rattle.lc_board.specs.PlainCalls.{IsHeld}
use Rattle.lc_board.proofs.PlainReplies.{held_here, read, holder}
use Rattle.lc_board.proofs.plain.Plain.posts_by.Goals as goal

pub index-requires-2 : goal.index-requires-2
index-requires-2 g c =
    let low = rw (← c.self.view_is) at c.requires.worker in
    let had = holder _ _ _ _ low c.index.ensures c.in-Some.is in
    let here = held_here _ _ _ _ c.self.invariant had in
    omega (arith, here.2, c.self.inside.cells.ok.0)

pub posts-requires : goal.posts-requires
posts-requires g c =
    let low = rw (← c.self.view_is) at c.requires.worker in
    let had = holder _ _ _ _ low c.index.ensures c.in-Some.is in
    let here = held_here _ _ _ _ c.self.invariant had in
    let is = read _ _ _ here.2 c.index-2.ensures in
    subst IsHeld (sym here.1 ∙ is) tt

pub returns : goal.returns
returns g c =
    let low = rw (← c.self.view_is) at c.requires.worker in
    let had = holder _ _ _ _ low c.index.ensures c.in-Some.is in
    let here = held_here _ _ _ _ c.self.invariant had in
    let is = read _ _ _ here.2 c.index-2.ensures in
    rw (← c.self.view_is, had, is) c.posts.ensures
