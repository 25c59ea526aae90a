use Rattle.std.proofs.{Common.{◌≡◌, ◌-◌, false, length, map, take_all, drop, sym, ◌∙◌, ap, subst, arith}, lemmas.List.length-drop}
use Rattle.std.specs.List.{filter_map, AllByRecursion}
use Rattle.lc_level.specs.{Narrowing.{paths_in, rest_from, rests}, PathSteps.comes_before}
use Rattle.lc_level.proofs.{EachOnce.once_in_order, SeenPaths.{lent, lent_option, seen, order_left, past_left, skipped}}
use Rattle.lc_tree.specs.ByteOrder.{AreInOrder}
use Rattle.lc_level.proofs.narrowing.only_paths.OnlyPaths.rests.Goals as goal

pub first_past-at-requires : goal.first_past-at-requires
first_past-at-requires c =
    let is = ap (map (λ path. path.now)) c.as_slice-sorted.ensures.value ∙ c.self.invariant in
    subst AreInOrder (sym is) (once_in_order (paths_in (lent_option c.self.inside.asked)))

pub seen_from-requires-clause-order : goal.seen_from-requires-clause-order
seen_from-requires-clause-order c =
    let paths = c.as_slice-sorted.result.now in
    let at = c.first_past-at.result in
    let is = ap (map (λ path. path.now)) c.as_slice-sorted.ensures.value ∙ c.self.invariant in
    let order = subst AreInOrder (sym is) (once_in_order (paths_in (lent_option c.self.inside.asked))) in
    subst (λ ps. AreInOrder (lent ps)) (sym (take_all (length paths - at) (drop at paths) (omega (arith, length-drop at paths))))
    (order_left at paths order)

pub seen_from-requires-clause-past : goal.seen_from-requires-clause-past
seen_from-requires-clause-past c =
    let paths = c.as_slice-sorted.result.now in
    let at = c.first_past-at.result in
    subst (λ ps. AllByRecursion (λ path. comes_before c.args.directory.now path ≡ false) (lent ps))
    (sym (take_all (length paths - at) (drop at paths) (omega (arith, length-drop at paths))))
    (past_left c.args.directory.now paths at c.first_past-at.ensures.place)

pub returns : goal.returns
returns c =
    let d = c.args.directory.now in
    let paths = c.as_slice-sorted.result.now in
    let at = c.first_past-at.result in
    let is = ap (map (λ path. path.now)) c.as_slice-sorted.ensures.value ∙ c.self.invariant in
    c.in_ok-seen.ensures ∙ ap (seen d) (take_all (length paths - at) (drop at paths) (omega (arith, length-drop at paths)))
    ∙ skipped d paths at c.first_past-at.ensures.place ∙ ap (filter_map (rest_from d)) is
    ∙ ap (λ only. rests only d) c.self.view_is
