-- Lists of paths or names in which none stands twice, and what is picked from them.
use Rattle.std.proofs.Common.{arith}
use Rattle.std.proofs.lemmas.Grind.{common_steps}
use Rattle.std.proofs.Common.{◌≡◌, ◌≢◌, ℕ, Bool, true, false, cond, List, [], ◌∷◌, ◌++◌, map, refl, sym}
use Rattle.std.specs.List.{flat_map, AllByRecursion}
use Rattle.lc_board.proofs.Weights.{each-map, each-append}

-- no element stands twice
abbrev pub Distinct : {A : Type 0} → List A → Type 0
Distinct [] = Unit {0}
Distinct (x ∷ xs) = AllByRecursion (λ y. x ≢ y) xs × Distinct xs

-- two such lists of which no element stands in both
pub distinct-append : {A : Type 0} (xs ys : List A) → Distinct xs → Distinct ys → AllByRecursion (λ x. AllByRecursion (λ y. x ≢ y) ys) xs
    → Distinct (xs ++ ys)
distinct-append [] ys a b c = b
distinct-append (x ∷ xs) ys a b c = (each-append (λ y. x ≢ y) xs ys a.0 c.0, distinct-append xs ys a.1 b c.1)

module _ {X : Type 0} (name : X → List ℕ) where
  -- the names of the elements that pass a test
  abbrev pub picked : (X → Bool) → List X → List (List ℕ)
  picked keep xs = flat_map (λ x. cond (keep x) (name x ∷ []) []) xs

  -- what holds of all names holds of those that are picked
  pub each_picked : (keep : X → Bool) (P : List ℕ → Type 0) (xs : List X) → AllByRecursion (λ x. P (name x)) xs
      → AllByRecursion P (picked keep xs)
  each_picked keep P [] a = tt
  each_picked keep P (x ∷ xs) a = grind (arith, common_steps, each_picked keep P xs a.1)

  by_name : (P : List ℕ → Type 0) (xs : List X) → AllByRecursion P (map name xs) → AllByRecursion (λ x. P (name x)) xs
  by_name P [] a = tt
  by_name P (x ∷ xs) a = (a.0, by_name P xs a.1)

  -- none of those stands twice, where none of all does
  pub picked_distinct : (keep : X → Bool) (xs : List X) → Distinct (map name xs) → Distinct (picked keep xs)
  picked_distinct keep [] d = tt
  picked_distinct keep (x ∷ xs) d = at (keep x) (picked_distinct keep xs d.1)
    where
      at : (b : Bool) → Distinct (picked keep xs) → Distinct (cond b (name x ∷ []) [] ++ picked keep xs)
      at true rec = (each_picked keep (λ m. name x ≢ m) xs (by_name (λ m. name x ≢ m) xs d.0), rec)
      at false rec = rec

  -- nor does one stand among those that pass another test, where no element passes both
  pub picked_apart : (one two : X → Bool) → ((x : X) → one x ≡ true → two x ≡ true → ⊥) → (xs : List X) → Distinct (map name xs) →
      AllByRecursion (λ m. AllByRecursion (λ n. m ≢ n) (picked two xs)) (picked one xs)
  picked_apart one two never [] d = tt
  picked_apart one two never (x ∷ xs) d = at (one x) refl (two x) refl (picked_apart one two never xs d.1)
    where
      mine : AllByRecursion (λ y. name x ≢ name y) xs
      mine = by_name (λ m. name x ≢ m) xs d.0

      theirs : AllByRecursion (λ y. name y ≢ name x) xs
      theirs = each-map (λ y. name x ≢ name y) (λ y. name y ≢ name x) (λ y f t. f (sym t)) xs mine

      both : (ms ns : List (List ℕ)) → AllByRecursion (λ m. m ≢ name x) ms → AllByRecursion (λ m. AllByRecursion (λ n. m ≢ n) ns) ms
          → AllByRecursion (λ m. AllByRecursion (λ n. m ≢ n) (name x ∷ ns)) ms
      both [] ns a b = tt
      both (m ∷ ms) ns a b = ((a.0, b.0), both ms ns a.1 b.1)

      at : (b : Bool) → one x ≡ b → (c : Bool) → two x ≡ c
          → AllByRecursion (λ m. AllByRecursion (λ n. m ≢ n) (picked two xs)) (picked one xs) →
          AllByRecursion (λ m. AllByRecursion (λ n. m ≢ n) (cond c (name x ∷ []) [] ++ picked two xs))
          (cond b (name x ∷ []) [] ++ picked one xs)
      at true p true q rec = absurd (never x p q)
      at true p false q rec = (each_picked two (λ m. name x ≢ m) xs mine, rec)
      at false p true q rec = both (picked one xs) (picked two xs) (each_picked one (λ m. m ≢ name x) xs theirs) rec
      at false p false q rec = rec
