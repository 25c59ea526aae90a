-- Files that are sorted by their paths, each path once.
use Rattle.std.proofs.{Common.{◌≡◌, ℕ, Bool, List, refl, sym, ◌∙◌, ap, IsPermutation}}
use Rattle.std.proofs.{lemmas.{Cmp.{eq_by_cmp_equiv, nat_list_cmp_total, on_total}, Map.Lookups.exact_bytes}}
use Rattle.std.proofs.lemmas.List.{Folds.{Any-from_list_any, list_any-from_Any}, Kept.{Any-dedup, Contains-from_dedup}}
use Rattle.std.proofs.lemmas.List.{Kept.IsStrictlySortedBy-dedup, Sorted.{Contains-permutation, IsPermutation-sym, list_any-IsPermutation}}
use Rattle.std.specs.{Cmp.{IsTotalOrder, both_ways}, List.{dedup, Sorted.IsSorted}, Ordering.{eq_by_cmp, on}}
use Rattle.lc_changes.specs.{FileChanges.{AreByPath, file_path}, Merged.has_key}
use Rattle.lc_level.specs.Level.{FileLineModel}
use Rattle.lc_tree.specs.ByteOrder.{bytes_cmp}
use Rattle.lc_walk.proofs.Keys.{equal_if}

pub path_cmp_total : IsTotalOrder (on file_path bytes_cmp)
path_cmp_total = on_total file_path nat_list_cmp_total

-- whether two files have the same path
abbrev pub have_one_path : FileLineModel → FileLineModel → Bool
have_one_path = eq_by_cmp (on file_path bytes_cmp)

-- some file has such a path, before files of one path are kept once and after
any_deduped : (paths : List ℕ → Bool) (fs : List FileLineModel)
    → has_key file_path paths (dedup have_one_path fs) ≡ has_key file_path paths fs
any_deduped paths fs =
    let test : FileLineModel → Bool = λ (f : FileLineModel). paths f.path in
    both_ways _ _
    (λ some. let a = Any-from_list_any test (dedup have_one_path fs) some in
    let c = Contains-from_dedup have_one_path fs a.1 (a.0, a.2, a.3) in list_any-from_Any test fs (c.0, a.1, c.1, c.2, a.4))
    (λ some. let a = Any-from_list_any test fs some in
    let d = Any-dedup (eq_by_cmp_equiv path_cmp_total) fs a.1 (a.0, a.2, a.3) in
    list_any-from_Any test (dedup have_one_path fs) (
      d.0,
      d.1,
      d.2,
      d.3,
      ap paths (sym (exact_bytes a.1.path d.1.path (equal_if (bytes_cmp a.1.path d.1.path) d.4))) ∙ a.4,
    ))

pub by_path : (fs sorted : List FileLineModel) → IsPermutation fs sorted → IsSorted (on file_path bytes_cmp) sorted
    → AreByPath fs (dedup have_one_path sorted)
by_path fs sorted moved order = record {
  given = λ f has. Contains-permutation sorted fs f (IsPermutation-sym fs sorted moved) (Contains-from_dedup have_one_path sorted f has);
  present = λ paths. any_deduped paths sorted ∙ sym (list_any-IsPermutation (λ (f : FileLineModel). paths f.path) fs sorted moved);
  order = IsStrictlySortedBy-dedup path_cmp_total (λ a b. refl) sorted order;
}
