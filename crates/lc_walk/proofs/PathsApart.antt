-- No path stands twice in the lines of a report.
use Rattle.std.proofs.Common.{arith, rules, ◌≡◌, ◌≢◌, ℕ, Bool, true, false, cond, List, [], ◌∷◌, ◌++◌, map, refl, sym, ◌∙◌, ap, subst}
use Rattle.std.proofs.{Common.IsPermutation, lemmas.{Grind.common_steps, Cmp.{nat_list_cmp_total, eq_by_cmp_equiv}}}
use Rattle.std.proofs.lemmas.List.Sorted.{IsPermutation-append, IsPermutation-map}
use Rattle.std.proofs.lemmas.Map.{Keys.IsDistinct-IsPermutation, Text.is_eq-slice_cmp}
use Rattle.std.specs.{List.{IsDistinct, AllByRecursion}, Ordering.eq_by_cmp}
use Rattle.lc_tree.specs.ByteOrder.{bytes_cmp, AreApart}
use Rattle.lc_level.specs.{FaultLines.FaultLineModel, Level.{SkippedLineModel, FileLineModel}}
use Rattle.lc_level.proofs.WellFormed.{other_bytes, bytes_other}
use Rattle.lc_board.proofs.Weights.{each-append}
use Rattle.lc_walk.specs.{Found.{Found, found_file, found_fault, found_skipped, path_of}, Laws.PathsOnceLaw, ReportLines.file_paths}
use Rattle.lc_walk.specs.{ReportLines.{fault_paths, skipped_paths}, FoundReports.{files_of, faults_of, skipped_lines_of, IsReportOf}}
use Rattle.lc_walk.specs.declared.{options.ReportLists.ReportLists, report.Report.Report}
use Rattle.lc_walk.proofs.{Distinct.{Distinct, distinct-append, picked, picked_distinct, picked_apart}, Listings.flat_none, PathsOnce.fine}

apart_all : (x : List ℕ) (ys : List (List ℕ)) → AllByRecursion (λ y. x ≢ y) ys → AllByRecursion (λ y. eq_by_cmp bytes_cmp x y ≡ false) ys
apart_all x [] a = tt
apart_all x (y ∷ ys) a = (is_eq-slice_cmp x y ∙ other_bytes x y a.0, apart_all x ys a.1)

-- paths of which no two are equal stand apart
apart_from_distinct : (xs : List (List ℕ)) → Distinct xs → AreApart xs
unfolding IsDistinct
apart_from_distinct [] d = tt
apart_from_distinct (x ∷ xs) d = (apart_all x xs d.0, apart_from_distinct xs d.1)

others : (x : List ℕ) (ys : List (List ℕ)) → AllByRecursion (λ y. eq_by_cmp bytes_cmp x y ≡ false) ys → AllByRecursion (λ y. x ≢ y) ys
others x [] a = tt
others x (y ∷ ys) a = (bytes_other x y (sym (is_eq-slice_cmp x y) ∙ a.0), others x ys a.1)

-- and of paths that stand apart no two are equal
distinct_from_apart : (xs : List (List ℕ)) → AreApart xs → Distinct xs
unfolding IsDistinct
distinct_from_apart [] a = tt
distinct_from_apart (x ∷ xs) a = (others x xs a.0, distinct_from_apart xs a.1)

-- in any order
apart_moved : (xs ys : List (List ℕ)) → IsPermutation xs ys → AreApart xs → AreApart ys
apart_moved xs ys = IsDistinct-IsPermutation _ ((eq_by_cmp_equiv nat_list_cmp_total).symm) xs ys

-- no path stands twice in a walk
pub paths_once_law : PathsOnceLaw
paths_once_law = grind (arith, common_steps, apart_from_distinct, fine)

-- nor in what was found in another order
pub found_apart : (xs ys : List Found) → IsPermutation xs ys → AreApart (map path_of xs) → AreApart (map path_of ys)
found_apart xs ys moved a = apart_moved (map path_of xs) (map path_of ys) (IsPermutation-map path_of xs ys moved) a

-- ---- the lists of a report

abbrev is_file : Bool → Found → Bool
is_file asked (found_file directory f) = asked
is_file asked thing = false

abbrev is_fault : Found → Bool
is_fault (found_fault path word) = true
is_fault thing = false

abbrev is_skipped : Bool → Found → Bool
is_skipped asked (found_skipped directory l) = asked
is_skipped asked thing = false

none_picked : (xs : List Found) (keep : Found → Bool) → ((x : Found) → keep x ≡ false) → picked path_of keep xs ≡ []
none_picked xs keep none = flat_none (λ x. cond (keep x) (path_of x ∷ []) []) xs (λ x. ap (λ b. cond b (path_of x ∷ []) []) (none x))

no_file : (x : Found) → is_file false x ≡ false
no_file x = grind (arith, common_steps)

none_skipped : (x : Found) → is_skipped false x ≡ false
none_skipped x = grind (arith, common_steps)

-- the paths of a list of lines are those of the things that have a line
file_paths_are : (asked : Bool) (xs : List Found) → file_paths (cond asked (files_of xs) []) ≡ picked path_of (is_file asked) xs
file_paths_are false xs = sym (none_picked xs (is_file false) no_file)
file_paths_are true [] = refl
file_paths_are true (found_file directory f ∷ xs) = ap (λ l. path_of (found_file directory f) ∷ l) (file_paths_are true xs)
file_paths_are true (thing ∷ xs) = file_paths_are true xs

fault_paths_are : (xs : List Found) → fault_paths (faults_of xs) ≡ picked path_of is_fault xs
fault_paths_are [] = refl
fault_paths_are (found_fault path word ∷ xs) = ap (λ l. path ∷ l) (fault_paths_are xs)
fault_paths_are (thing ∷ xs) = fault_paths_are xs

skipped_paths_are : (asked : Bool) (xs : List Found)
    → skipped_paths (cond asked (skipped_lines_of xs) []) ≡ picked path_of (is_skipped asked) xs
skipped_paths_are false xs = sym (none_picked xs (is_skipped false) none_skipped)
skipped_paths_are true [] = refl
skipped_paths_are true (found_skipped directory l ∷ xs) = ap (λ ls. path_of (found_skipped directory l) ∷ ls) (skipped_paths_are true xs)
skipped_paths_are true (thing ∷ xs) = skipped_paths_are true xs

file_no_fault : (asked : Bool) (x : Found) → is_file asked x ≡ true → is_fault x ≡ true → ⊥
file_no_fault asked x a b = grind (arith, common_steps)

file_not_skipped : (asked other : Bool) (x : Found) → is_file asked x ≡ true → is_skipped other x ≡ true → ⊥
file_not_skipped asked other x a b = grind (arith, common_steps)

fault_not_skipped : (asked : Bool) (x : Found) → is_fault x ≡ true → is_skipped asked x ≡ true → ⊥
fault_not_skipped asked x a b = grind (arith, common_steps)

ruleset kinds_apart = (file_no_fault, file_not_skipped, fault_not_skipped)

module _ (xs : List Found) (once : AreApart (map path_of xs)) where
  distinct : Distinct (map path_of xs)
  distinct = distinct_from_apart (map path_of xs) once

  one_list : (keep : Found → Bool) (ps : List (List ℕ)) → ps ≡ picked path_of keep xs → AreApart ps
  one_list keep ps is = subst AreApart (sym is) (apart_from_distinct _ (picked_distinct path_of keep xs distinct))

  -- no path stands twice among the files
  pub file_list_apart : (asked : Bool) → AreApart (file_paths (cond asked (files_of xs) []))
  file_list_apart asked = one_list (is_file asked) _ (file_paths_are asked xs)

  -- nor among the faults
  pub fault_list_apart : AreApart (fault_paths (faults_of xs))
  fault_list_apart = one_list is_fault _ (fault_paths_are xs)

  -- nor among the entries left out
  pub skipped_list_apart : (asked : Bool) → AreApart (skipped_paths (cond asked (skipped_lines_of xs) []))
  skipped_list_apart asked = one_list (is_skipped asked) _ (skipped_paths_are asked xs)

  three_lists : (lists : ReportLists) → Distinct (picked path_of (is_file lists.files) xs ++ picked path_of is_fault xs
      ++ picked path_of (is_skipped lists.left_out) xs)
  three_lists lists =
      search (rules, arith, kinds_apart, distinct-append, picked_distinct, distinct, picked_apart, each-append)

  -- nor in two of these lists of a report
  pub all_lists_apart : (lists : ReportLists) (r : Report) → IsReportOf lists xs r
      → AreApart (file_paths r.files.items ++ fault_paths r.faults.items ++ skipped_paths r.skipped.items)
  all_lists_apart lists r is =
      apart_moved _ _
      (IsPermutation-append _ _ _ _
      (IsPermutation-append _ _ _ _ (IsPermutation-map (λ (f : FileLineModel). f.path) _ _ is.files_are)
      (IsPermutation-map (λ (f : FaultLineModel). f.path) _ _ is.faults_are))
      (IsPermutation-map (λ (l : SkippedLineModel). l.path) _ _ is.skipped_are))
      (subst AreApart
      (ap (λ l. l ++ picked path_of is_fault xs ++ picked path_of (is_skipped lists.left_out) xs) (sym (file_paths_are lists.files xs))
      ∙ ap (λ l. file_paths (cond lists.files (files_of xs) []) ++ l ++ picked path_of (is_skipped lists.left_out) xs)
      (sym (fault_paths_are xs))
      ∙ ap (λ l. file_paths (cond lists.files (files_of xs) []) ++ fault_paths (faults_of xs) ++ l)
      (sym (skipped_paths_are lists.left_out xs)))
      (apart_from_distinct _ (three_lists lists)))
