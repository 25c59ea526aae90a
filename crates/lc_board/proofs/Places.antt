-- What lies at a place of a list that was written or pushed to.
use Rattle.std.proofs.Common.{◌≡◌, ◌≢◌, ℕ, zero, suc, ◌<◌, ◌≤◌, ◌==◌, cond, Bool, true, false, List, [], ◌∷◌, ◌++◌, length}
use Rattle.std.proofs.Common.{slice_get, slice_set, slice_index_or, Option, Some, None, refl, sym, ◌∙◌, ap, subst, arith, eq-eqb}
use Rattle.std.proofs.lemmas.Bool.{eqb-true}

-- true is not false
pub differ : {b : Bool} → b ≡ true → b ≡ false → ⊥
differ t f = let h : true ≡ false = sym t ∙ f in absurd (cc h)

-- a choice by an equation of numbers
pub at_same : {A : Type 0} (k i : ℕ) (x y : A) → k ≡ i → cond (k == i) x y ≡ x
at_same k i x y e = ap (λ b. cond b x y) (eq-eqb k i e)

-- two numbers that a test tells apart
pub apart : (k i : ℕ) → (k == i) ≡ false → k ≢ i
apart k i e same = differ (eq-eqb k i same) e

other_cases : {A : Type 0} (k i : ℕ) (x y : A) → k ≢ i → (b : Bool) → (k == i) ≡ b → cond b x y ≡ y
other_cases k i x y n true t = absurd (n (eqb-true k i t))
other_cases k i x y n false t = refl

-- a case of another number
pub at_other : {A : Type 0} (k i : ℕ) (x y : A) → k ≢ i → cond (k == i) x y ≡ y
at_other k i x y n = other_cases k i x y n (k == i) refl

each_cases : (P : ℕ → Type 0) (i : ℕ) → P i → ((k : ℕ) → k ≢ i → P k) → (k : ℕ) (b : Bool) → (k == i) ≡ b → P k
each_cases P i here others k true t = subst P (sym (eqb-true k i t)) here
each_cases P i here others k false t = others k (λ e. differ (eq-eqb k i e) t)

-- what holds of one number and of all others holds of each
pub each : (P : ℕ → Type 0) (i : ℕ) → P i → ((k : ℕ) → k ≢ i → P k) → (k : ℕ) → P k
each P i here others k = each_cases P i here others k (k == i) refl

module _ {A : Type 0} where
  -- what lies at a place within the list
  pub get_there : (xs : List A) (i : ℕ) → i < length xs → (x : A) × (slice_get xs i ≡ Some x)
  get_there [] i l = absurd (omega (arith, l))
  get_there (x ∷ xs) zero l = (x, refl)
  get_there (x ∷ xs) (suc i) l = get_there xs i (omega (arith, l))

  -- the place that was written
  pub get_set_same : (xs : List A) (i : ℕ) (v : A) → i < length xs → slice_get (slice_set xs i v) i ≡ Some v
  get_set_same [] i v h = absurd (omega arith)
  get_set_same (x ∷ xs) zero v h = refl
  get_set_same (x ∷ xs) (suc i) v h = get_set_same xs i v (omega arith)

  -- another place than the one that was written
  pub get_set_other : (xs : List A) (i k : ℕ) (v : A) → k ≢ i → slice_get (slice_set xs i v) k ≡ slice_get xs k
  get_set_other [] i k v h = refl
  get_set_other (x ∷ xs) zero zero v h = absurd (h refl)
  get_set_other (x ∷ xs) zero (suc k) v h = refl
  get_set_other (x ∷ xs) (suc i) zero v h = refl
  get_set_other (x ∷ xs) (suc i) (suc k) v h = get_set_other xs i k v (λ e. h (ap suc e))

  -- the place that was pushed to
  pub get_push_same : (xs : List A) (v : A) → slice_get (xs ++ v ∷ []) (length xs) ≡ Some v
  get_push_same [] v = refl
  get_push_same (x ∷ xs) v = get_push_same xs v

  -- another place than the one that was pushed to
  pub get_push_other : (xs : List A) (v : A) (k : ℕ) → k ≢ length xs → slice_get (xs ++ v ∷ []) k ≡ slice_get xs k
  get_push_other [] v zero h = absurd (h refl)
  get_push_other [] v (suc k) h = refl
  get_push_other (x ∷ xs) v zero h = refl
  get_push_other (x ∷ xs) v (suc k) h = get_push_other xs v k (λ e. h (ap suc e))

  -- the place that was written, with a default past the end
  pub index_set_same : (xs : List A) (i : ℕ) (v d : A) → i < length xs → slice_index_or (slice_set xs i v) i d ≡ v
  index_set_same [] i v d h = absurd (omega arith)
  index_set_same (x ∷ xs) zero v d h = refl
  index_set_same (x ∷ xs) (suc i) v d h = index_set_same xs i v d (omega arith)

  -- another place, with a default past the end
  pub index_set_other : (xs : List A) (i k : ℕ) (v d : A) → k ≢ i → slice_index_or (slice_set xs i v) k d ≡ slice_index_or xs k d
  index_set_other [] i k v d h = refl
  index_set_other (x ∷ xs) zero zero v d h = absurd (h refl)
  index_set_other (x ∷ xs) zero (suc k) v d h = refl
  index_set_other (x ∷ xs) (suc i) zero v d h = refl
  index_set_other (x ∷ xs) (suc i) (suc k) v d h = index_set_other xs i k v d (λ e. h (ap suc e))

  -- where a list has nothing, it has ended
  pub get_none : (xs : List A) (k : ℕ) → slice_get xs k ≡ None → length xs ≤ k
  get_none [] k e = omega arith
  get_none (x ∷ xs) zero e = absurd (cc e)
  get_none (x ∷ xs) (suc k) e = omega (arith, get_none xs k e)

  -- each place of a written list
  pub each_set : (P : ℕ → Option A → Type 0) (xs : List A) (i : ℕ) (v : A) → i < length xs → P i (Some v)
      → ((k : ℕ) → k ≢ i → P k (slice_get xs k)) → (k : ℕ) → P k (slice_get (slice_set xs i v) k)
  each_set P xs i v low here others =
      each (λ k. P k (slice_get (slice_set xs i v) k)) i (subst (P i) (sym (get_set_same xs i v low)) here)
      (λ k n. subst (P k) (sym (get_set_other xs i k v n)) (others k n))

  -- each place of a list that was pushed to
  pub each_push : (P : ℕ → Option A → Type 0) (xs : List A) (v : A) → P (length xs) (Some v)
      → ((k : ℕ) → k ≢ length xs → P k (slice_get xs k)) → (k : ℕ) → P k (slice_get (xs ++ v ∷ []) k)
  each_push P xs v here others =
      each (λ k. P k (slice_get (xs ++ v ∷ []) k)) (length xs) (subst (P (length xs)) (sym (get_push_same xs v)) here)
      (λ k n. subst (P k) (sym (get_push_other xs v k n)) (others k n))
