-- What one step of a tally does to its rows.
use Rattle.std.proofs.lemmas.{Grind.common_steps, Bool.false≢true}
use Rattle.std.proofs.lemmas.List.{get_or-take, length-take, Sums.{sum_by-set, sum_by_push, get_or-le-sum_by}, Elements.All-set}
use Rattle.std.proofs.lemmas.List.Folds.{list_any_none}
use Rattle.std.proofs.Common.{◌≡◌, ℕ, ◌+◌, ◌<◌, Bool, true, false, cond, List, [], ◌∷◌, ◌++◌, length, get_or, take, refl, sym, ◌∙◌, ap}
use Rattle.std.proofs.{Common.{arith, Option, Some, None, Result}, Math.ListN.set}
use Rattle.std.specs.{Prelude.{IfSome, MatchOption, is_some}, Result.result_ok, List.{All, AllWithin, HoldsAt, sum_by}}
use Rattle.std.specs.{List.Sorted.{IsBinarySearchResult, IsSearchInRange}, Ordering.{is_eq, ordering_reverse}}
use Rattle.std.specs.declared.cmp.Ordering.{Ordering, TheVariants.Equal}
use Rattle.lc_walk.specs.{Key.{Key, key_cmp, same_key}, TallyRows.{TallyRowModel, sums_of_rows, Gains, has_row, row_with}, Sums.plus}
use Rattle.lc_walk.specs.{Sums.IsInRange, declared.tally.sums.Sums.Sums}
use Rattle.lc_walk.proofs.{Keys.key_cmp_total, RowSums.{gives, SeesKeys, AddsAlike, has_sums, front_of}}

-- what a row gives that has gained what another one gives
gave : (b : Bool) (u w m s t : ℕ) → w ≡ u + m → s + cond b u 0 ≡ t + cond b w 0 → s ≡ t + cond b m 0
gave b u w m s t e f = grind (arith, common_steps)

-- a row of a key has room for what all rows have room for
pub row_in_range : (rs : List TallyRowModel) (i : ℕ) (d : TallyRowModel) (s : Sums) → i < length rs
    → IsInRange (plus (sums_of_rows rs) s) → IsInRange (plus (get_or rs i d).sums s)
row_in_range rs i d s within room = grind (arith, common_steps, get_or-le-sum_by)

-- a row of the key gains s
pub gains_set : (rs : List TallyRowModel) (i : ℕ) (y d : TallyRowModel) (k : Key) (s : Sums) → i < length rs
    → key_cmp (get_or rs i d).key k ≡ Equal → y.key ≡ (get_or rs i d).key → y.sums ≡ plus (get_or rs i d).sums s
    → Gains rs (set rs i y) k s
gains_set rs i y d k s within found same_as more = has_sums (rs ++ row_with k s ∷ []) (set rs i y) alike filled
  where
    old : TallyRowModel
    old = get_or rs i d

    alike : (p : TallyRowModel → Bool) (v : Sums → ℕ) → SeesKeys p → AddsAlike v
        → sum_by (gives p v) (set rs i y) ≡ sum_by (gives p v) (rs ++ row_with k s ∷ [])
    alike p v sees adds =
        let test : p y ≡ p (row_with k s) = sees y (row_with k s) (ap (λ j. key_cmp j k) same_as ∙ found) in
        let before : p old ≡ p (row_with k s) = sees old (row_with k s) found in
        gave (p (row_with k s)) (v old.sums) (v y.sums) (v s) _ _ (ap v more ∙ adds old.sums s)
        (ap (λ b. sum_by (gives p v) (set rs i y) + cond b (v old.sums) 0) (sym before) ∙ sum_by-set (gives p v) rs i y d within
        ∙ ap (λ b. sum_by (gives p v) rs + cond b (v y.sums) 0) test) ∙ sym (sum_by_push (gives p v) rs (row_with k s))

    filled : All (λ r. 0 < r.sums.files) (rs ++ row_with k s ∷ []) → All (λ r. 0 < r.sums.files) (set rs i y)
    filled all =
        let P : TallyRowModel → Type 0 = λ r. 0 < r.sums.files in
        let rest : All P rs = front_of P rs (row_with k s ∷ []) all in
        let some : 0 < old.sums.files = rest i d within in
        let grown : y.sums.files ≡ old.sums.files + s.files = ap (λ (u : Sums). u.files) more in
        All-set P rs i y (omega arith) rest

-- a row that is found has absorbed s
pub gains_absorbed : (rs ds : List TallyRowModel) (i : ℕ) (y d : TallyRowModel) (k : Key) (s : Sums) → ds ≡ rs → i < length rs
    → HoldsAt (λ r. key_cmp r.key k ≡ Equal) rs i → d ≡ get_or ds i d → y.key ≡ d.key
    → (IsInRange (plus d.sums s) → y.sums ≡ plus d.sums s) → IsInRange (plus (sums_of_rows rs) s) → Gains rs (set ds i y) k s
gains_absorbed rs ds i y d k s same within found read key more room = grind (arith, common_steps, row_in_range, set, gains_set)

-- what is found among the first rows
pub found_in_front : (rs front : List TallyRowModel) (n : ℕ) (k : Key) (r : Result ℕ ℕ) (o : Option ℕ) → o ≡ result_ok r
    → front ≡ take n rs → IsSearchInRange r (length front) → IsBinarySearchResult (λ (x : TallyRowModel). key_cmp x.key k) front r
    → IfSome o (HoldsAt (λ (x : TallyRowModel). key_cmp x.key k ≡ Equal) rs)
found_in_front rs front n k r o is same within found = grind (arith, common_steps, length-take, get_or-take)

reversed : (o : Ordering) → is_eq (ordering_reverse o) ≡ is_eq o
reversed o = grind (arith, common_steps)

-- a key that has a row is found by going through all rows
pub known_found : (rs : List TallyRowModel) (k : Key) (r : Option ℕ) (found : ℕ → Type 0)
    → MatchOption r (AllWithin (λ x. false ≡ is_eq (key_cmp x.key k)) rs 0 (length rs)) found → has_row k rs ≡ true → is_some r ≡ true
known_found rs k (Some i) found m known = refl
known_found rs k None found none known =
    absurd (false≢true (sym (list_any_none (λ (x : TallyRowModel). same_key k x.key) rs (λ n d lt.
    ap is_eq (key_cmp_total.antisymm k (get_or rs n d).key) ∙ reversed (key_cmp (get_or rs n d).key k) ∙ sym (none n d (omega arith) lt)))
    ∙ known))
