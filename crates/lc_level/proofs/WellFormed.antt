-- The names of a listing's items: good, and no two the same.
use Rattle.std.proofs.Common.{◌≡◌, ◌≢◌, ℕ, ◌==◌, Bool, true, false, not, ◌&&◌, List, [], ◌∷◌, refl, sym, ◌∙◌, bytes_eq, arith}
use Rattle.std.proofs.lemmas.{Bool.{and_parts, not-true, or_parts}, Map.{Keys.IsDistinct-from_sorted, Text.is_eq-slice_cmp}}
use Rattle.std.proofs.lemmas.Slice.Eq.{bytes_eq-Decides}
use Rattle.std.specs.{List.{list_any, IsDistinct, AllByRecursion, Sorted.IsStrictlySortedBy}, Ordering.eq_by_cmp}
use Rattle.lc_glob.specs.Path.{is_no_name, is_good_name}
use Rattle.lc_tree.specs.{Listing.{names, have_good_names, HaveDistinctNames, IsListing}, ByteOrder.bytes_cmp}
use Rattle.lc_level.specs.Answers.{Item, name_of, entries_of}

-- a name is not empty and has no slash
abbrev pub IsGoodName : List ℕ → Type 0
IsGoodName n = (n ≢ []) × AllByRecursion (λ b. (b == 47) ≡ false) n

-- good names, none of which stands twice
abbrev pub Spread : List Item → Type 0
Spread [] = Unit {0}
Spread (e ∷ es) = AllByRecursion (λ d. bytes_eq (name_of d) (name_of e) ≡ false) es × IsGoodName (name_of e) × Spread es

-- no entries are a listing
pub no_entries : IsListing []
unfolding IsStrictlySortedBy
no_entries = record { good = refl; order = tt; few = omega arith }

-- true is not false
pub clash : {b : Bool} → b ≡ true → b ≡ false → ⊥
clash t f = let h : true ≡ false = sym t ∙ f in absurd (cc h)

-- bytes that compare equal are equal
pub same_bytes : (m n : List ℕ) → bytes_eq m n ≡ true → m ≡ n
same_bytes m n e = (bytes_eq-Decides m n).0 e

-- equal bytes compare equal
pub bytes_same : (m n : List ℕ) → m ≡ n → bytes_eq m n ≡ true
bytes_same m n e = (bytes_eq-Decides m n).1 e

-- other bytes don't
pub other_bytes : (m n : List ℕ) → m ≢ n → bytes_eq m n ≡ false
other_bytes m n d = at (bytes_eq m n) refl
  where
    at : (b : Bool) → bytes_eq m n ≡ b → bytes_eq m n ≡ false
    at true e = absurd (d (same_bytes m n e))
    at false e = e

-- bytes that don't compare equal are others
pub bytes_other : (m n : List ℕ) → bytes_eq m n ≡ false → m ≢ n
bytes_other m n e s = clash (bytes_same m n s) e

no_slash : (n : List ℕ) → list_any (λ b. b == 47) n ≡ false → AllByRecursion (λ b. (b == 47) ≡ false) n
no_slash [] e = tt
no_slash (b ∷ bs) e = let t = or_parts (b == 47) (list_any (λ x. x == 47) bs) e in (t.0, no_slash bs t.1)

some_name : (n : List ℕ) → is_no_name n ≡ false → n ≢ []
some_name [] e = cc
some_name (b ∷ bs) e = λ d. cc

-- a name that passes the test of names is good
pub good_one : (n : List ℕ) → is_good_name n ≡ true → IsGoodName n
good_one n e =
    let first = and_parts (not (is_no_name n) && not (list_any (λ b. b == 47) n)) (not (list_any (λ b. b == 0) n)) e in
    let second = and_parts (not (is_no_name n)) (not (list_any (λ b. b == 47) n)) first.0 in
    (some_name n (not-true (is_no_name n) second.0), no_slash n (not-true (list_any (λ b. b == 47) n) second.1))

others : (e : Item) (es : List Item) → AllByRecursion (λ y. eq_by_cmp bytes_cmp (name_of e) y ≡ false) (names (entries_of es))
    → AllByRecursion (λ d. bytes_eq (name_of d) (name_of e) ≡ false) es
others e [] a = tt
others e (d ∷ ds) a = (
  other_bytes (name_of d) (name_of e) (λ s. bytes_other (name_of e) (name_of d)
      (sym (is_eq-slice_cmp (name_of e) (name_of d)) ∙ a.0) (sym s)),
  others e ds a.1,
)

spread_by : (es : List Item) → have_good_names (entries_of es) ≡ true → HaveDistinctNames (entries_of es) → Spread es
unfolding IsDistinct
spread_by [] g d = tt
spread_by (e ∷ es) g d =
    let t = and_parts (is_good_name (name_of e)) (have_good_names (entries_of es)) g in
    (others e es d.0, good_one (name_of e) t.0, spread_by es t.1 d.1)

-- the items of a listing have good names, no two the same
pub spread : (es : List Item) → IsListing (entries_of es) → Spread es
spread es l = spread_by es l.good (IsDistinct-from_sorted bytes_cmp (names (entries_of es)) l.order)
