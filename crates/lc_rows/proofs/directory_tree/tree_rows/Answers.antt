use Rattle.std.proofs.{Common.{rules, List, sym, ◌∙◌, subst}, lemmas.{Fn.always_returns_same, List.Sorted.ranks_by}}
use Rattle.std.proofs.lemmas.List.Sorted.{IsNonDecreasingBy-from_sort_by_key}
use Rattle.std.specs.{List.{flat_map, Sorted.IsNonDecreasingBy}, Ordering.is_lt}
use Rattle.lc_rows.specs.{LevelParts.{HaveSumsOf, height, level_parts}, RowKeys.{ShownRowModel, row_key}, ShownRows.AreAddedUp}
use Rattle.lc_rows.specs.TreeRows.{depth_first_cmp}
use Rattle.lc_rows.proofs.{Sorted.depth_first_cmp_total, TreeParts.added_tree}
use Rattle.lc_rows.proofs.directory_tree.tree_rows.Goals as goal

pub all_levels-requires : goal.all_levels-requires
all_levels-requires c =
    subst (IsNonDecreasingBy (height c.args.depth)) (sym c.deref.ensures.value)
    (IsNonDecreasingBy-from_sort_by_key (height c.args.depth) _ c.sort_unstable_by_key.ensures.sorted (λ a r q k. search rules))

pub returns : goal.returns
returns c = (
  c.in_ok-rows.rows.items,
  added_tree c.args.depth c.args.by c.args.files.now c.in_ok-with_files.with_files.items c.sort_unstable_by_key.new.self.items
      c.in_ok-all.all.items c.in_ok-rows.rows.items
      (subst (λ (ps : List ShownRowModel). AreAddedUp ps c.in_ok-with_files.with_files.items) c.in_ok-files_of_directories.ensures
      c.in_ok-with_files.ensures)
      c.sort_unstable_by_key.ensures.permutation
      (subst (λ (rs : List ShownRowModel). HaveSumsOf (flat_map (level_parts c.args.depth) rs) c.in_ok-all.all.items)
      c.deref.ensures.value c.in_ok-all.ensures)
      (subst (λ (rs : List ShownRowModel). AreAddedUp rs c.in_ok-rows.rows.items)
      (c.in_ok-parts.ensures ∙ c.deref-2.ensures.value) c.in_ok-rows.ensures),
  c.sort_unstable_by.ensures.permutation,
  c.sort_unstable_by.ensures.sorted (λ (a : ShownRowModel) (b : ShownRowModel). is_lt (depth_first_cmp (row_key a) (row_key b)))
      (ranks_by depth_first_cmp_total row_key) (always_returns_same _ _ _ (λ a r q k. search rules)),
)
