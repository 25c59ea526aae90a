-- Sums over what passes a test, after an edit of the list.
use Rattle.std.proofs.Common.{◌≡◌, ℕ, ◌+◌, Bool, true, false, cond, List, [], ◌∷◌, refl, sym, ◌∙◌, ap, zero-add}
use Rattle.std.proofs.lemmas.List.Sums.{sum_by-cons}
use Rattle.std.specs.List.{filter, sum_by}

-- v of what passes, and 0 of the others
abbrev pub part : {X : Type 0} → (X → Bool) → (X → ℕ) → X → ℕ
part p v x = cond (p x) (v x) 0

-- a sum over what passes a test is the sum of what each passing element gives
pub sum_by-filter : {X : Type 0} (p : X → Bool) (v : X → ℕ) (xs : List X) → sum_by v (filter p xs) ≡ sum_by (part p v) xs
sum_by-filter p v [] = refl
sum_by-filter p v (x ∷ xs) =
    elim (p x) as (λ b. sum_by v (cond b (x ∷ filter p xs) (filter p xs)) ≡ cond b (v x) 0 + sum_by (part p v) xs) [
      | true ↦ sum_by-cons v x (filter p xs) ∙ ap (λ n. v x + n) (sum_by-filter p v xs)
      | false ↦ sum_by-filter p v xs ∙ sym (zero-add _)
    ] ∙ sym (sum_by-cons (part p v) x xs)
