-- Texts with the same beginning.
use Rattle.std.proofs.Common.{◌≡◌, ◌≢◌, ◌∙◌, ℕ, Bool, true, false, List, ◌++◌, Option, Some, None, sym, refl, subst}
use Rattle.std.proofs.lemmas.{List.append_cancel_left, Slice.Eq.bytes_eq-Decides}
use Rattle.std.specs.{Borrow.Bor, Prelude.MatchOption, Bool.Decides, Str.bytes_eq}

-- two tests that are true where the same is so
same_answer : (b c : Bool) → (b ≡ true → c ≡ true) → (c ≡ true → b ≡ true) → b ≡ c
same_answer true c there back = sym (there refl)
same_answer false true there back = back refl
same_answer false false there back = refl

-- a text that does not begin with some bytes is not they and others
pub differs : (text front bytes : List ℕ) → ((rest : List ℕ) → text ≢ front ++ rest) → false ≡ bytes_eq text (front ++ bytes)
differs text front bytes not_so =
    same_answer false (bytes_eq text (front ++ bytes)) (λ e. absurd (cc))
    (λ e. absurd (not_so bytes ((bytes_eq-Decides text (front ++ bytes)).0 e)))

-- a text that begins so is they and others where its rest is these
pub same_rest : (text front rest bytes : List ℕ) (r : Bool) → text ≡ front ++ rest → Decides r (rest ≡ bytes)
    → r ≡ bytes_eq text (front ++ bytes)
same_rest text front rest bytes r is decides =
    same_answer r (bytes_eq text (front ++ bytes)) (λ e. (bytes_eq-Decides text (front ++ bytes)).1 (rw (is, decides.0 e) refl))
    (λ e. decides.1 (append_cancel_left front rest bytes (sym is ∙ (bytes_eq-Decides text (front ++ bytes)).0 e)))

-- the rest of a text that begins with some bytes, or none
abbrev pub StripsFront : Option (Bor (List ℕ)) → List ℕ → List ℕ → Type 0
StripsFront r text front = MatchOption r ((rest : List ℕ) → text ≢ front ++ rest) (λ x. text ≡ front ++ x.now)

pub not_begun : (r : Option (Bor (List ℕ))) (text front : List ℕ) → StripsFront r text front → r ≡ None
    → (rest : List ℕ) → text ≢ front ++ rest
not_begun None text front strips is = strips
not_begun (Some x) text front strips is = absurd (cc)

pub begins : (r : Option (Bor (List ℕ))) (rest : Bor (List ℕ)) (text front : List ℕ) → StripsFront r text front → r ≡ Some rest
    → text ≡ front ++ rest.now
begins None rest text front strips is = absurd (cc)
begins (Some x) rest text front strips is = subst (λ (o : Option (Bor (List ℕ))). StripsFront o text front) is strips
