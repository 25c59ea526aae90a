use Rattle.std.proofs.{Common.{rules, le-ltb, sym, ◌∙◌}, lemmas.List.Sorted.IsPartitionPoint-from_clause}
use Rattle.lc_level.proofs.ByHalves.{finds, precedes}
use Rattle.lc_level.proofs.narrowing.sorted_paths.is_among.Goals as goal

pub returns-then-at-paths : goal.returns-then-at-paths
returns-then-at-paths c =
    let found = finds c.args.paths.now c.requires c.args.path.now c.partition_point-at.result
    (λ parted. IsPartitionPoint-from_clause (precedes c.args.path.now) c.args.paths.now _ c.partition_point-at.ensures.partitioned
    parted (λ a r f' k. search rules)) in
    c.eq.ensures ∙ sym (found.here _ c.if-at-paths.true)

pub returns-else-at-paths : goal.returns-else-at-paths
returns-else-at-paths c =
    let found = finds c.args.paths.now c.requires c.args.path.now c.partition_point-at.result
    (λ parted. IsPartitionPoint-from_clause (precedes c.args.path.now) c.args.paths.now _ c.partition_point-at.ensures.partitioned
    parted (λ a r f' k. search rules)) in
    le-ltb _ _ c.if-at-paths.false ∙ sym (found.nowhere c.if-at-paths.false)
