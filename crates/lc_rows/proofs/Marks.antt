-- A test that answers by marks, one after the other.
use Rattle.std.proofs.Common.{◌≡◌, ℕ, ◌+◌, Bool, false, List, [], ◌∷◌, length, get_or, drop, refl, sym, ◌∙◌, ap, ap₂, arith}
use Rattle.std.proofs.lemmas.List.{nil_from_length}
use Rattle.std.specs.List.Retain.{ReturnsInTurn}

module _ {X P : Type 0} (R : P → X → Bool → P → Type 0) (left : P → List Bool)
    (step : (p : P) (x : X) (b : Bool) (q : P) → R p x b q → (b ≡ get_or (left p) 0 false) × (left q ≡ drop 1 (left p))) where
  split : (bs : List Bool) (n : ℕ) → length bs ≡ n + 1 → bs ≡ get_or bs 0 false ∷ drop 1 bs
  split [] n is = absurd (omega (arith, is))
  split (b ∷ bs) n is = refl

  fewer : (bs : List Bool) (n : ℕ) → length bs ≡ n + 1 → length (drop 1 bs) ≡ n
  fewer [] n is = absurd (omega (arith, is))
  fewer (b ∷ bs) n is = omega (arith, is)

  -- its answers are the marks, if each element has one
  pub answers_are_marks : (p : P) (bs : List Bool) (xs : List X) (q : P) → length (left p) ≡ length xs → length bs ≡ length xs
      → ReturnsInTurn R p bs xs q → bs ≡ left p
  answers_are_marks p [] [] q is same all = sym (nil_from_length (left p) is)
  answers_are_marks p [] (x ∷ xs) q is same all = absurd (omega (arith, same))
  answers_are_marks p (b ∷ bs) [] q is same all = absurd (omega (arith, same))
  answers_are_marks p (b ∷ bs) (x ∷ xs) q is same all =
      let one = step p x b all.0 all.1 in
      ap₂ (λ c cs. c ∷ cs) one.0
      (answers_are_marks all.0 bs xs q (ap length one.1 ∙ fewer (left p) (length xs) (is ∙ omega arith)) (omega (arith, same)) all.2
      ∙ one.1)
      ∙ sym (split (left p) (length xs) (is ∙ omega arith))
