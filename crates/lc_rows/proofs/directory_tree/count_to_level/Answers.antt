use Rattle.std.proofs.Common.{rules, arith, ◌<◌, ◌+◌, ◌-◌, leb, leb-false, drop, length-drop, slice_index_or, subst, sym}
use Rattle.std.proofs.lemmas.List.{get_or-drop, Sorted.{IsPartitionPoint-from_clause, IsPartitionedBy-leb}}
use Rattle.lc_rows.specs.{LevelParts.{height, level_to}, RowKeys.{ShownRowModel, row_key}}
use Rattle.lc_rows.proofs.Above.{below_from}
use Rattle.lc_rows.proofs.directory_tree.count_to_level.Goals as goal

pub returns-clause-below : goal.returns-clause-below
returns-clause-below c =
    let n = c.args.depth in
    let rows = c.args.rows.now in
    let count = c.partition_point.result in
    let parted = IsPartitionedBy-leb (height n) rows (n - c.args.level) c.requires.order in
    let point = IsPartitionPoint-from_clause (λ (r : ShownRowModel). leb (height n r) (n - c.args.level)) rows count
    c.partition_point.ensures.partitioned parted (λ a r q k. search rules) in
    below_from n c.args.level (drop count rows) (λ j d there. (
    let far = point.1 (count + j) d (omega arith) (omega (arith, there, length-drop count rows)) in
    let higher : n - c.args.level < height n (slice_index_or rows (count + j) d) = leb-false _ _ far in
    subst (λ (r : ShownRowModel). level_to n (row_key r) < c.args.level) (sym (get_or-drop count rows j d))
    (omega (arith, higher, c.requires.level))
    ))
