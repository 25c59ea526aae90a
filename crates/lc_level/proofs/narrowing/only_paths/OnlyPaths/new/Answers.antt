use Rattle.std.proofs.{Common.{map, ◌∙◌, ap}, lemmas.List.Filters.dedup_is}
use Rattle.lc_level.specs.Narrowing.{each_once}
use Rattle.lc_level.proofs.EachOnce.{sorted_are_once, same}
use Rattle.lc_level.proofs.narrowing.only_paths.OnlyPaths.new.Goals as goal

pub invariant_of-result : goal.invariant_of-result
invariant_of-result c =
    ap (map (λ path. path.now)) (dedup_is same _ _ c.dedup.ensures.filtered)
    ∙ sorted_are_once c.in_ok-sorted.sorted.items c.sort_unstable.new.self.items c.sort_unstable.ensures.permutation
    c.sort_unstable.ensures.sorted
    ∙ ap (λ paths. each_once (map (λ path. path.now) paths)) (c.in_ok-sorted.ensures.items_if_clones_equal (λ x y is. is))
