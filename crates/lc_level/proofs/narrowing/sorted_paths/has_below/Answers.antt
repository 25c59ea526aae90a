use Rattle.std.proofs.{Common.{rules, [], ◌∷◌, ◌++◌, le-ltb, sym, ◌∙◌}, lemmas.List.Sorted.IsPartitionPoint-from_clause}
use Rattle.lc_glob.specs.Bytes.{slash}
use Rattle.lc_level.proofs.ByHalves.{finds_below, precedes}
use Rattle.lc_level.proofs.narrowing.sorted_paths.has_below.Goals as goal

pub returns-then-at-paths : goal.returns-then-at-paths
returns-then-at-paths c =
    let found = finds_below c.args.paths.now c.requires c.args.other.now c.partition_point-at.result
    (λ parted. IsPartitionPoint-from_clause (precedes (c.args.other.now ++ slash ∷ [])) c.args.paths.now _
    c.partition_point-at.ensures.partitioned parted (λ a r f' k. search rules)) in
    c.stands_below.ensures ∙ sym (found.here _ c.if-at-paths.true)

pub returns-else-at-paths : goal.returns-else-at-paths
returns-else-at-paths c =
    let found = finds_below c.args.paths.now c.requires c.args.other.now c.partition_point-at.result
    (λ parted. IsPartitionPoint-from_clause (precedes (c.args.other.now ++ slash ∷ [])) c.args.paths.now _
    c.partition_point-at.ensures.partitioned parted (λ a r f' k. search rules)) in
    le-ltb _ _ c.if-at-paths.false ∙ sym (found.nowhere c.if-at-paths.false)
