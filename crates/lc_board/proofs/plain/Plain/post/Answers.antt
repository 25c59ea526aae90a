use Rattle.std.proofs.Common.{◌≡◌, ◌<◌, length, Some, arith, sym, ap, subst, ◌∙◌}
use Rattle.lc_board.specs.{Limits.capacity_limit, PlainBoard.posts_in, PlainCalls.IsHeld}
use Rattle.lc_board.proofs.{PlainSound.sound_post, PlainReplies.{held_here, post_ok, read, holder, count_same}}
use Rattle.lc_board.proofs.plain.Plain.post.Goals as goal

pub index_mut-requires : goal.index_mut-requires
index_mut-requires g c =
    let low = rw (← c.self.view_is) at c.requires.worker in
    let had = holder _ _ _ _ low c.index.ensures c.in-Some.is in
    let here = held_here _ _ _ _ c.self.invariant had in
    omega (arith, here.2, c.self.inside.cells.ok.0)

pub count_post-requires-clause-held : goal.count_post-requires-clause-held
count_post-requires-clause-held g c =
    let low = rw (← c.self.view_is) at c.requires.worker in
    let had = holder _ _ _ _ low c.index.ensures c.in-Some.is in
    let here = held_here _ _ _ _ c.self.invariant had in
    let is = read _ _ _ here.2 (rw c.reserve.ensures.items at c.index_mut.ensures.value) in
    subst IsHeld (sym here.1 ∙ is) tt

pub count_post-requires-clause-few : goal.count_post-requires-clause-few
count_post-requires-clause-few g c =
    let low = rw (← c.self.view_is) at c.requires.worker in
    let had = holder _ _ _ _ low c.index.ensures c.in-Some.is in
    let here = held_here _ _ _ _ c.self.invariant had in
    let is = read _ _ _ here.2 (rw c.reserve.ensures.items at c.index_mut.ensures.value) in
    let few : here.0 < capacity_limit = omega (arith, here.3, c.self.invariant.fits, c.self.invariant.small) in
    subst (λ o. posts_in o < capacity_limit) (sym here.1 ∙ is) few

pub invariant_of-self-2 : goal.invariant_of-self-2
invariant_of-self-2 g c =
    let low = rw (← c.self.view_is) at c.requires.worker in
    let had = holder _ _ _ _ low c.index.ensures c.in-Some.is in
    let here = held_here _ _ _ _ c.self.invariant had in
    let is = read _ _ _ here.2 (rw c.reserve.ensures.items at c.index_mut.ensures.value) in
    let room : length c.self.inside.cells.items < c.self.inside.capacity = omega (arith, c.self.inside.cells.ok.0) in
    rw (c.push_reserved.ensures.items, c.reserve.ensures.items, c.count_post.ensures.3)
    (sound_post _ _ _ _ _ _ c.self.invariant here.2 room (is ∙ ap Some c.count_post.ensures.2))

pub returns : goal.returns
returns g c =
    let low = rw (← c.self.view_is) at c.requires.worker in
    let had = holder _ _ _ _ low c.index.ensures c.in-Some.is in
    let here = held_here _ _ _ _ c.self.invariant had in
    let is = read _ _ _ here.2 (rw c.reserve.ensures.items at c.index_mut.ensures.value) in
    let more = count_same _ _ _ _ (sym (is ∙ ap Some c.count_post.ensures.2) ∙ here.1) in
    let number : c.len-number.result ≡ length c.self.inside.cells.items = omega (arith, c.self.inside.cells.ok.0) in
    let room : length c.self.inside.cells.items < c.self.inside.capacity = omega (arith, c.self.inside.cells.ok.0) in
    rw (← c.self.view_is, number, c.push_reserved.ensures.items, c.reserve.ensures.items, c.count_post.ensures.3, more)
    (post_ok _ _ _ _ _ _ c.self.invariant had low room here.1)
