-- Reports have one joined report, but for the order of files that have the same path.
use Rattle.std.proofs.Common.{◌≡◌, ℕ, zero, suc, ◌<◌, Bool, true, false, cond, ◌&&◌, ◌||◌, T, List, [], ◌∷◌, map, Option, None, Some}
use Rattle.std.proofs.Common.{refl, sym, ◌∙◌, ap, subst, arith, All, IsPermutation, ⊎_elim}
use Rattle.std.proofs.lemmas.{Bool.{cases_Bool, cond-true, cond-false}, Cmp.eq_by_cmp_equiv}
use Rattle.std.proofs.lemmas.List.{Elements.{All-head, All-tail}, Sorted.{IsPermutation-sym, IsPermutation-trans}}
use Rattle.std.proofs.lemmas.Map.{Keys.{sorted_head, sorted_tail}, Views.{Contains-from_any, list_any-from_Contains, tells_apart}}
use Rattle.std.specs.{Cmp.{IsTotalOrder, both_ways}, FinMap.Entries.{below_all, find, is_sorted, same_entries}, List.AllByRecursion}
use Rattle.std.specs.{List.{list_any, Sorted.IsStrictlySortedBy}, Ordering.{eq_by_cmp, is_eq, is_lt}, declared.cmp.Ordering.Ordering}
use Rattle.std.specs.declared.cmp.Ordering.TheVariants.{Less, Equal}
use Rattle.lc_reports.proofs.LineOrders.{fault_cmp_total, fault_ties, skipped_cmp_total, skipped_ties}
use Rattle.lc_reports.specs.{Joined.{IsUnited, all_faults, all_files, all_rows, all_skipped, if_wanted}, Laws.{HasFile, JoinOnceLaw}}
use Rattle.lc_reports.specs.LineOrder.{skipped_cmp}
use Rattle.lc_walk.proofs.{Keys.{equal_if, exact_keys, key_cmp_total}, RowSums.sums_of_one}
use Rattle.lc_walk.specs.{Key.{Key, key_cmp, same_key}, TallyRows.{AddsUp, IsInOrder, TallyRowModel, row_with, rows_with, sums_of_rows}}
use Rattle.lc_walk.specs.declared.{options.ReportLists.ReportLists, tally.sums.Sums.Sums}
use Rattle.lc_walk.proofs.Classes.{same_classes}

both : (a b : Bool) → T a → T b → T (a && b)
both true b p q = q
both false b p q = p

-- ---- lists as entries of a map

module _ {X K V : Type 0} (cmp : K → K → Ordering) (key : X → K) (value : X → V) where
  abbrev entries : List X → List (K × V)
  entries xs = map (λ x. (key x, value x)) xs

  below : (k : K) (xs : List X) → AllByRecursion (λ y. cmp k y ≡ Less) (map key xs) → T (below_all cmp k (entries xs))
  below k [] all = tt
  below k (x ∷ xs) all = both (is_lt (cmp k (key x))) (below_all cmp k (entries xs)) (subst (λ o. T (is_lt o)) (sym all.0) tt)
      (below k xs all.1)

  in_order : (xs : List X) → IsStrictlySortedBy cmp (map key xs) → T (is_sorted cmp (entries xs))
  in_order [] s = tt
  in_order (x ∷ xs) s = both (below_all cmp (key x) (entries xs)) (is_sorted cmp (entries xs))
      (below (key x) xs (sorted_head cmp (key x) (map key xs) s)) (in_order xs (sorted_tail cmp (key x) (map key xs) s))

  -- what a function makes of the entries again
  back : (f : K × V → X) → ((x : X) → f (key x, value x) ≡ x) → (xs : List X) → map f (entries xs) ≡ xs
  back f is [] = refl
  back f is (x ∷ xs) = λ i. is x i ∷ back f is xs i

-- ---- lines that are united

module _ {X : Type 0} {cmp : X → X → Ordering} (total : IsTotalOrder cmp) (ties : (x y : X) → cmp x y ≡ Equal → x ≡ y) where
  abbrev units : List X → List (X × Unit {0})
  units = entries cmp (λ x. x) (λ x. tt)

  kept_order : (xs : List X) → IsStrictlySortedBy cmp xs → IsStrictlySortedBy cmp (map (λ x. x) xs)
  kept_order xs s = subst (IsStrictlySortedBy cmp) (sym (same xs)) s
    where
      same : (xs : List X) → map (λ x. x) xs ≡ xs
      same [] = refl
      same (x ∷ xs) = ap (λ l. x ∷ l) (same xs)

  found : (q : X) (xs : List X) → find cmp q (units xs) ≡ cond (list_any (eq_by_cmp cmp q) xs) (Some tt) None
  found q [] = refl
  found q (x ∷ xs) = at (eq_by_cmp cmp q x) (list_any (eq_by_cmp cmp q) xs) (find cmp q (units xs)) (found q xs)
    where
      at : (a b : Bool) (rest : Option (Unit {0})) → rest ≡ cond b (Some tt) None → cond a (Some tt) rest ≡ cond (a || b) (Some tt) None
      at true b rest e = refl
      at false b rest e = e

  held : (xs us vs : List X) → IsUnited cmp xs us → IsUnited cmp xs vs → (q : X) → list_any (eq_by_cmp cmp q) us ≡ true
      → list_any (eq_by_cmp cmp q) vs ≡ true
  held xs us vs a b q e = list_any-from_Contains (eq_by_cmp_equiv total) q vs
      (b.kept q (a.given q (Contains-from_any (tells_apart ties) q us e)))

  pub one_united : (xs us vs : List X) → IsUnited cmp xs us → IsUnited cmp xs vs → us ≡ vs
  one_united xs us vs a b =
      let found_alike : (q : X) → find cmp q (units us) ≡ find cmp q (units vs) = λ q.
      found q us ∙ ap (λ h. cond h (Some tt) None) (both_ways (list_any (eq_by_cmp cmp q) us) (list_any (eq_by_cmp cmp q) vs)
      (held xs us vs a b q) (held xs vs us b a q)) ∙ sym (found q vs) in
      let same = same_entries cmp total ties (units us) (units vs) (in_order cmp (λ x. x) (λ x. tt) us (kept_order us a.order))
      (in_order cmp (λ x. x) (λ x. tt) vs (kept_order vs b.order)) found_alike in
      sym (back cmp (λ x. x) (λ x. tt) (λ e. e.0) (λ x. refl) us) ∙ ap (map (λ e. e.0)) same
      ∙ back cmp (λ x. x) (λ x. tt) (λ e. e.0) (λ x. refl) vs

-- ---- rows that are added up

abbrev keyed : List TallyRowModel → List (Key × Sums)
keyed = entries key_cmp (λ (r : TallyRowModel). r.key) (λ (r : TallyRowModel). r.sums)

abbrev if_files : ℕ → Sums → Option Sums
if_files zero s = None
if_files (suc n) s = Some s

-- the sums of a row, if there are files
abbrev some_sums : Sums → Option Sums
some_sums s = if_files s.files s

has_sums : (s : Sums) → 0 < s.files → some_sums s ≡ Some s
has_sums s filled = at s.files filled
  where
    at : (n : ℕ) → 0 < n → if_files n s ≡ Some s
    at zero none = absurd (omega arith)
    at (suc n) some = refl

-- keys after this one are others
others : (k : Key) (rs : List TallyRowModel)
    → AllByRecursion (λ y. key_cmp k y ≡ Less) (map (λ (r : TallyRowModel). r.key) rs) → rows_with k rs ≡ []
others k [] all = refl
others k (r ∷ rs) all = cond-false (same_key k r.key) (r ∷ rows_with k rs) (rows_with k rs) (ap is_eq all.0) ∙ others k rs all.1

found_row : (q : Key) (rs : List TallyRowModel) → IsInOrder rs → All HasFile rs
    → find key_cmp q (keyed rs) ≡ some_sums (sums_of_rows (rows_with q rs))
found_row q [] order filled = refl
found_row q (r ∷ rs) order filled = ⊎_elim
    (λ t. cond-true (same_key q r.key) (Some r.sums) (find key_cmp q (keyed rs)) t
    ∙ sym (ap some_sums (only t) ∙ has_sums r.sums (All-head HasFile r rs filled)))
    (λ f. cond-false (same_key q r.key) (Some r.sums) (find key_cmp q (keyed rs)) f
    ∙ found_row q rs (sorted_tail key_cmp r.key (map (λ (x : TallyRowModel). x.key) rs) order) (All-tail HasFile r rs filled)
    ∙ sym (ap (λ l. some_sums (sums_of_rows l)) (cond-false (same_key q r.key) (r ∷ rows_with q rs) (rows_with q rs) f)))
    (cases_Bool (same_key q r.key))
  where
    only : same_key q r.key ≡ true → sums_of_rows (rows_with q (r ∷ rs)) ≡ r.sums
    only t =
        let none = subst (λ k. rows_with k rs ≡ []) (sym (exact_keys q r.key (equal_if (key_cmp q r.key) t)))
        (others r.key rs (sorted_head key_cmp r.key (map (λ (x : TallyRowModel). x.key) rs) order)) in
        ap sums_of_rows (cond-true (same_key q r.key) (r ∷ rows_with q rs) (rows_with q rs) t ∙ ap (λ l. r ∷ l) none) ∙ sums_of_one r

one_sum : (rs us vs : List TallyRowModel) → All HasFile rs → AddsUp rs us → AddsUp rs vs → us ≡ vs
one_sum rs us vs filled a b =
    let alike : (q : Key) → find key_cmp q (keyed us) ≡ find key_cmp q (keyed vs) = λ q.
    found_row q us a.order (a.same.filled filled) ∙ ap some_sums (a.same.sums q ∙ sym (b.same.sums q))
    ∙ sym (found_row q vs b.order (b.same.filled filled)) in
    let in_key_order = in_order key_cmp (λ (r : TallyRowModel). r.key) (λ (r : TallyRowModel). r.sums) in
    let again = back key_cmp (λ (r : TallyRowModel). r.key) (λ (r : TallyRowModel). r.sums) (λ e. row_with e.0 e.1) (λ r. refl) in
    let same = same_entries key_cmp key_cmp_total exact_keys (keyed us) (keyed vs) (in_key_order us a.order) (in_key_order vs b.order)
    alike in
    sym (again us) ∙ ap (map (λ (e : Key × Sums). row_with e.0 e.1)) same ∙ again vs

pub join_once : JoinOnceLaw
join_once rs r s filled a b =
    let lists = a.lists ∙ sym b.lists in
    let files = subst (λ (l : ReportLists). IsPermutation (if_wanted l.files (all_files rs)) s.files.items) (sym lists) b.files in
    let skipped = subst (λ (l : ReportLists). IsUnited skipped_cmp (if_wanted l.left_out (all_skipped rs)) s.skipped.items) (sym lists)
    b.skipped in
    record {
      rows = one_sum (all_rows rs) r.rows.items s.rows.items filled a.rows b.rows;
      columns = a.columns ∙ sym b.columns;
      totals = a.totals ∙ sym b.totals;
      classes = same_classes r.classes s.classes (a.text ∙ sym b.text) (a.binary ∙ sym b.binary);
      directories = a.directories ∙ sym b.directories;
      entries = a.entries ∙ sym b.entries;
      lists = lists;
      files = IsPermutation-trans _ _ _ (IsPermutation-sym _ _ a.files) files;
      faults = one_united fault_cmp_total fault_ties (all_faults rs) r.faults.items s.faults.items a.faults b.faults;
      skipped = one_united skipped_cmp_total skipped_ties (if_wanted r.lists.left_out (all_skipped rs)) r.skipped.items s.skipped.items
          a.skipped skipped;
    }
