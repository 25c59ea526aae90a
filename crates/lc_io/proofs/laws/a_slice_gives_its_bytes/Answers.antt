use Rattle.std.proofs.Common.{◌≡◌, ℕ, zero, suc, ◌<◌, true, false, List, [], ◌∷◌, ◌++◌, take, drop, refl, sym, ap₂, ◌∙◌, arith, Bor}
use Rattle.std.proofs.lemmas.List.{take-append-drop}
use Rattle.lc_io.specs.Reads.{Answer, gave, failed, at_end, at_failure, AnyRoom}
use Rattle.lc_io.proofs.Exact.{IsExact, bytes_given}
use Rattle.lc_io.proofs.laws.a_slice_gives_its_bytes.Goals as goal

-- what the reads of a slice may give
abbrev slice_gives : Bor (List ℕ) → ℕ → Answer → Bor (List ℕ) → Type 0
slice_gives old room answer new = (answer ≡ gave (take room old.now)) × (new.now ≡ drop room old.now)

gave_same : (xs ys : List ℕ) → gave xs ≡ gave ys → xs ≡ ys
gave_same xs ys e = cc

no_failure : (xs : List ℕ) → failed ≡ gave xs → ⊥
no_failure xs e = cc

take_none : (n : ℕ) (xs : List ℕ) → 0 < n → [] ≡ take n xs → xs ≡ []
take_none n [] h e = refl
take_none zero (x ∷ xs) h e = let no : ⊥ = omega arith in absurd no
take_none (suc n) (x ∷ xs) h e = absurd (cc)

slice_is_exact : IsExact slice_gives (λ s. s.now) (λ s. false)
slice_is_exact = record {
  piece = λ old new room p h. (sym (ap₂ (λ a b. a ++ b) (gave_same p (take room old.now) h.0) h.1 ∙ take-append-drop room old.now), refl);
  end = λ old new room some h. (take_none room old.now some (gave_same [] (take room old.now) h.0), refl);
  failure = λ old new room h. absurd (no_failure (take room old.now) h.0);
}

pub returns-clause-whole : goal.returns-clause-whole
returns-clause-whole c old new bytes run =
    sym (bytes_given slice_gives (λ s. s.now) (λ s. false) slice_is_exact AnyRoom old new bytes at_end run).0

pub returns-clause-no_failure : goal.returns-clause-no_failure
returns-clause-no_failure c old new bytes run =
    let fails : false ≡ true = (bytes_given slice_gives (λ s. s.now)
    (λ s. false) slice_is_exact AnyRoom old new bytes at_failure run).1 in cc
