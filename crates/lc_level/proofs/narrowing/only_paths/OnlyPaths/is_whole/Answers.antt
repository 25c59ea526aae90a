use Rattle.std.proofs.Common.{◌||◌, map, sym, ◌∙◌, ap, subst, bytes_eq}
use Rattle.std.specs.List.{list_any}
use Rattle.lc_level.specs.Narrowing.{stands_below, is_whole, paths_in}
use Rattle.lc_level.proofs.{AskedPaths.any_once, EachOnce.once_in_order, SeenPaths.{lent_option, some_lent}}
use Rattle.lc_tree.specs.ByteOrder.{AreInOrder}
use Rattle.lc_level.proofs.narrowing.only_paths.OnlyPaths.is_whole.Goals as goal

pub is_within-requires : goal.is_within-requires
is_within-requires c =
    let is = ap (map (λ path. path.now)) c.as_slice-sorted.ensures.value ∙ c.self.invariant in
    subst AreInOrder (sym is) (once_in_order (paths_in (lent_option c.self.inside.asked)))

pub returns-else-is_none : goal.returns-else-is_none
returns-else-is_none c =
    let d = c.args.directory.now in
    let asked = paths_in (lent_option c.self.inside.asked) in
    let is = ap (map (λ path. path.now)) c.as_slice-sorted.ensures.value ∙ c.self.invariant in
    c.is_within.ensures ∙ ap (list_any (λ path. bytes_eq path d || stands_below d path)) is
    ∙ any_once (λ path. bytes_eq path d || stands_below d path) asked
    ∙ sym (ap (λ b. b || list_any (λ path. bytes_eq path d || stands_below d path) asked)
    (some_lent c.self.inside.asked (sym c.if-is_none.ensures)))
    ∙ ap (λ only. is_whole only d) c.self.view_is
