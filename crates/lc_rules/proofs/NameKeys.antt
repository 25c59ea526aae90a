-- Maps and sets whose keys are names, by the names' bytes.
use Rattle.std.proofs.Common.{◌≡◌, ℕ, Bool, true, false, cond, ◌||◌, List, [], ◌∷◌, map, Some, is_some, Vec, refl, sym, ◌∙◌, ap}
use Rattle.std.proofs.lemmas.Map.Text.{is_eq-slice_cmp}
use Rattle.std.specs.{List.list_any, Str.bytes_eq, Borrow.Bor, Ordering.{nat_cmp, is_eq}, Cmp.eq_by_cmp_equiv}
use Rattle.std.specs.{Cmp.Lexicographic.{slice_cmp, nat_list_cmp_total}, Map.{lookup, IsKeyTest, AreApart, KeepsOthers}}
use Rattle.std.specs.{Set.KeepsOthers as KeepsOtherKeys, BTreeMap.{BTreeMap, is_at}, BTreeSet.BTreeSet, Global.Global}
use Rattle.lc_rules.specs.{Attributes.set, Decision.decided, Resolving.{marked, is_marked, names_in}, LineNames.has_name}
use Rattle.lc_rules.specs.MacroPlaces.{place_in}
use Rattle.lc_rules.proofs.{DecisionLaws.{same_bytes, bytes_self}, OneName.SameMarks}
use Rattle.std.specs.BTreeMap as tree
use Rattle.std.specs.BTreeSet as bag

bytes_eq-sym : (m n : List ℕ) (b : Bool) → bytes_eq m n ≡ b → bytes_eq n m ≡ b
bytes_eq-sym m n true e = bytes_self n m (sym (same_bytes m n e))
bytes_eq-sym m n false e = other (bytes_eq n m) refl
  where
    other : (b : Bool) → bytes_eq n m ≡ b → bytes_eq n m ≡ false
    other true q = absurd (let r : bytes_eq m n ≡ true = bytes_self m n (sym (same_bytes n m q)) in let s : true ≡ false = sym r ∙ e in cc)
    other false q = q

-- two names that differ are at no one key
names_apart : (m n k : List ℕ) → bytes_eq m n ≡ false → is_eq (slice_cmp nat_cmp m k) ≡ true → is_eq (slice_cmp nat_cmp n k) ≡ false
names_apart m n k h e =
    is_eq-slice_cmp n k
    ∙ ap (bytes_eq n) (sym (same_bytes m k (sym (is_eq-slice_cmp m k) ∙ e)))
    ∙ bytes_eq-sym m n false h

-- what has one answer at a name, and the old one at all others
by_name : {A : Type 0} (old new : List ℕ → A) (name : List ℕ) (v : A) → new name ≡ v
    → ((n : List ℕ) → bytes_eq name n ≡ false → new n ≡ old n) → (n : List ℕ) (b : Bool) → bytes_eq name n ≡ b
    → new n ≡ cond b v (old n)
by_name old new name v here others n true e = ap new (sym (same_bytes name n e)) ∙ here
by_name old new name v here others n false e = others n e

module _ {K : Type 0} (eq : K → K → Bool) (test : K → Bool) where
  other_entries : {X : Type 0} (old new : List (K × X)) → KeepsOthers eq test old new → (other : K → Bool) → IsKeyTest eq other
      → AreApart test other → lookup other new ≡ lookup other old
  unfolding KeepsOthers
  other_entries old new h = h

  other_keys : (old new : List K) → KeepsOtherKeys eq test old new → (other : K → Bool) → IsKeyTest eq other → AreApart test other
      → list_any other new ≡ list_any other old
  unfolding KeepsOtherKeys
  other_keys old new h = h

-- an inserted key has the new place, and each other its own
pub place_in-insert : (key : Vec ℕ Global) (v : ℕ) (old new : BTreeMap (Vec ℕ Global) ℕ)
    → tree.Updates (λ x y. slice_cmp nat_cmp x.items y.items) old new key (Some v) → (n : List ℕ)
    → place_in new n ≡ cond (bytes_eq key.items n) (Some v) (place_in old n)
place_in-insert key v old new h n =
    by_name (place_in old) (place_in new) key.items (Some v) h.1
    (λ m e. other_entries _ _ _ _ h.3 _ (λ x y. (eq_by_cmp_equiv nat_list_cmp_total).congr m x.items y.items)
    (λ k. names_apart key.items m k.items e))
    n (bytes_eq key.items n) refl

-- an inserted name is in the set, and each other is if it was
pub has_name-insert : (key : Vec ℕ Global) (old new : BTreeSet (Vec ℕ Global))
    → bag.Updates (λ x y. slice_cmp nat_cmp x.items y.items) old new key true → (n : List ℕ)
    → has_name new n ≡ cond (bytes_eq key.items n) true (has_name old n)
has_name-insert key old new h n =
    by_name (has_name old) (has_name new) key.items true h.1
    (λ m e. other_keys _ _ _ _ h.3 _ (λ x y. (eq_by_cmp_equiv nat_list_cmp_total).congr m x.items y.items)
    (λ k. names_apart key.items m k.items e))
    n (bytes_eq key.items n) refl

-- an inserted name is there, and the others stay
pub inserted : (key : Vec ℕ Global) (name : List ℕ) (old new : BTreeSet (Vec ℕ Global)) → key.items ≡ name
    → bag.Updates (λ x y. slice_cmp nat_cmp x.items y.items) old new key true → (n : List ℕ) → bytes_eq name n ≡ true
    → has_name new n ≡ true
inserted key name old new e h n q = has_name-insert key old new h n ∙ ap (λ b. cond b true (has_name old n)) (ap (λ m. bytes_eq m n) e ∙ q)

-- what was in the set stays
pub kept : (key : Vec ℕ Global) (old new : BTreeSet (Vec ℕ Global))
    → bag.Updates (λ x y. slice_cmp nat_cmp x.items y.items) old new key true → (n : List ℕ) → has_name old n ≡ true
    → has_name new n ≡ true
kept key old new h n q = has_name-insert key old new h n ∙ ap (cond (bytes_eq key.items n) true) q ∙ same (bytes_eq key.items n)
  where
    same : (b : Bool) → cond b true true ≡ true
    same true = refl
    same false = refl

is_marked-cons : (n : List ℕ) (ns : List (List ℕ)) (w : List ℕ) → is_marked (n ∷ ns) w ≡ (bytes_eq n w || is_marked ns w)
is_marked-cons n ns w = elim (bytes_eq n w) as
    (λ b. is_some (cond b (Some set) (decided (marked ns) w)) ≡ (b || is_marked ns w)) [ true ↦ refl | false ↦ refl ]

marked_keys : (keys : List (Bor (List ℕ))) (w : List ℕ)
    → is_marked (map (λ k. k.now) keys) w ≡ list_any (is_at (λ (k : Bor (List ℕ)). slice_cmp nat_cmp w k.now)) keys
marked_keys [] w = refl
marked_keys (k ∷ ks) w =
    is_marked-cons k.now (map (λ (k : Bor (List ℕ)). k.now) ks) w
    ∙ ap (λ b. b || is_marked (map (λ (k : Bor (List ℕ)). k.now) ks) w)
    (sym (is_eq-slice_cmp w k.now ∙ bytes_eq-sym k.now w (bytes_eq k.now w) refl))
    ∙ ap (λ b. is_eq (slice_cmp nat_cmp w k.now) || b) (marked_keys ks w)

-- a name is marked where the set has it
pub names_in-contains : (names : BTreeSet (Bor (List ℕ))) (w : List ℕ)
    → is_marked (names_in names) w ≡ bag.contains_by (λ k. slice_cmp nat_cmp w k.now) names
names_in-contains names w = marked_keys names.keys w

or_cond : (b c : Bool) → cond b true c ≡ (b || c)
or_cond true c = refl
or_cond false c = refl

-- the names of a set with one more are marked as by a list with one more
pub names_in-insert : (key : Bor (List ℕ)) (old new : BTreeSet (Bor (List ℕ)))
    → bag.Updates (λ x y. slice_cmp nat_cmp x.now y.now) old new key true → SameMarks (names_in new) (key.now ∷ names_in old)
names_in-insert key old new h w =
    names_in-contains new w ∙ h.0 (record key { now = w })
    ∙ ap (λ b. cond b true (bag.contains_by (λ (k : Bor (List ℕ)). slice_cmp nat_cmp w k.now) old)) (is_eq-slice_cmp key.now w)
    ∙ ap (cond (bytes_eq key.now w) true) (sym (names_in-contains old w))
    ∙ or_cond (bytes_eq key.now w) (is_marked (names_in old) w)
    ∙ sym (is_marked-cons key.now (names_in old) w)
