-- Sums of reports have no order.
use Rattle.std.proofs.Common.{◌≡◌, Bool, true, false, cond, List, [], ◌∷◌, Some, None, map, refl, sym, ◌∙◌, ap, arith, IsPermutation}
use Rattle.std.proofs.lemmas.List.Sorted.{All-permutation, IsPermutation-map, IsPermutation-sym, list_any-IsPermutation}
use Rattle.std.proofs.lemmas.List.Sums.{AllPass-from_list_all, list_all-from_AllPass}
use Rattle.std.specs.{Cmp.both_ways, List.{find, list_all, list_any}}
use Rattle.lc_level.specs.Level.{FileLineModel}
use Rattle.lc_reports.proofs.{Orders.join_order, RepeatedPaths.times_moved}
use Rattle.lc_walk.proofs.MovedLists.{lists_moved}
use Rattle.lc_walk.specs.declared.report.Report.{Report}
use Rattle.lc_reports.specs.{Laws.SumOrderLaw, Needs.{lacks_column, lacks_files, lacks_skipped, share_some}, Paths.AreApart}
use Rattle.lc_reports.specs.{Paths.paths_of, Sums.{CanBeSummed, IsSumOf, NoneLacks, needed_report, needed_reports}}
use Rattle.lc_sheet.specs.Keys.{has_key, report_keys}
use Rattle.lc_reports.specs.declared.{needs.Needs.Needs, part.Part.Part}

-- ---- what none lacks

none_found : (p : Part → Bool) (ps : List Part) → find p ps ≡ None → list_any p ps ≡ false
none_found p [] none = refl
none_found p (q ∷ ps) none = at (λ rest. none_found p ps rest) (p q) refl none
  where
    at : (find p ps ≡ None → list_any p ps ≡ false) → (b : Bool) → p q ≡ b → cond b (Some q) (find p ps) ≡ None
        → list_any p (q ∷ ps) ≡ false
    at rest true e is = absurd (cc is)
    at rest false e is = rw e (rest is)

found_none : (p : Part → Bool) (ps : List Part) → list_any p ps ≡ false → find p ps ≡ None
found_none p [] none = refl
found_none p (q ∷ ps) none = at (λ rest. found_none p ps rest) (p q) refl none
  where
    at : (list_any p ps ≡ false → find p ps ≡ None) → (b : Bool) → p q ≡ b → list_any p (q ∷ ps) ≡ false
        → find p (q ∷ ps) ≡ None
    at rest true e is = absurd (cc (sym is, e))
    at rest false e is = rw e (rest (rw e at is))

module _ (ps moved : List Part) (m : IsPermutation ps moved) where
  none_moved : (lacks : Part → Bool) → NoneLacks lacks ps → NoneLacks lacks moved
  none_moved lacks none =
      found_none lacks moved (sym (list_any-IsPermutation lacks ps moved m) ∙ none_found lacks ps none)

  all_moved : (p : Part → Bool) → list_all p ps ≡ list_all p moved
  all_moved p = both_ways (list_all p ps) (list_all p moved)
      (λ e. list_all-from_AllPass p moved (All-permutation (λ q. p q ≡ true) ps moved m (AllPass-from_list_all p ps e)))
      (λ e. list_all-from_AllPass p ps (All-permutation (λ q. p q ≡ true) moved ps (IsPermutation-sym ps moved m)
      (AllPass-from_list_all p moved e)))

  shared_moved : share_some ps ≡ share_some moved
  shared_moved = λ i. list_any (λ k. all_moved (λ p. has_key p.report.columns k) i) report_keys

  paths_moved : IsPermutation (paths_of ps) (paths_of moved)
  paths_moved = lists_moved (λ (p : Part). map (λ (f : FileLineModel). f.path) p.report.files.items) ps moved m

  apart_moved : AreApart (paths_of ps) → AreApart (paths_of moved)
  apart_moved apart q twice = let same = times_moved q (paths_of ps) (paths_of moved) paths_moved in apart q (omega (arith, twice))

  can_be_moved : (needs : Needs) → CanBeSummed needs ps → CanBeSummed needs moved
  can_be_moved needs can = record {
    columns = record {
      each = none_moved (lacks_column needs.columns) can.columns.each;
      shared = λ needed. sym shared_moved ∙ can.columns.shared needed;
    };
    lists = record {
      files = λ needed. none_moved lacks_files (can.lists.files needed);
      left_out = λ needed. none_moved lacks_skipped (can.lists.left_out needed);
    };
    apart = apart_moved can.apart;
  }

  sum_is_moved : (needs : Needs) (s : Report) → IsSumOf needs ps s → IsSumOf needs moved s
  sum_is_moved needs s is = record {
    joined = join_order (needed_reports needs ps) (needed_reports needs moved) s
        (IsPermutation-map (needed_report needs) ps moved m) is.joined;
    files = is.files;
  }

pub sum_order : SumOrderLaw
sum_order = record {
  can_be = λ needs ps moved m can. can_be_moved ps moved m needs can;
  sum = λ needs ps moved s m is. sum_is_moved ps moved m needs s is;
}
