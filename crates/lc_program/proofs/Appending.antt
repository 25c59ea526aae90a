-- Texts that are appended one after another.
use Rattle.std.proofs.Common.{◌≡◌, ◌∙◌, ◌++◌, ◌+◌, ◌<◌, ℕ, List, [], ◌∷◌, ap, ap₂, append_assoc, get_or, length, sym, take}
use Rattle.std.proofs.lemmas.{Grind.flat_map-append, List.{append-nil, take_more}}
use Rattle.std.specs.List.{flat_map}

pub appended : (old one two new a b c : List ℕ) → one ≡ old ++ a → two ≡ one ++ b → new ≡ two ++ c → new ≡ old ++ (a ++ b ++ c)
appended old one two new a b c first second third =
    third ∙ (ap (λ text. text ++ c) (second ∙ (ap (λ text. text ++ b) first ∙ append_assoc old a b)) ∙ append_assoc old (a ++ b) c)

-- one line more
pub lines_more : {X : Type 0} (line : X → List ℕ) (xs : List X) (i : ℕ) (d x : X) (old new : List ℕ) → i < length xs → x ≡ get_or xs i d
    → old ≡ flat_map line (take i xs) → new ≡ old ++ line x → new ≡ flat_map line (take (i + 1) xs)
lines_more line xs i d x old new low is before added =
    added ∙ ap₂ (λ (text one : List ℕ). text ++ one) before (ap line is)
    ∙ sym (ap (flat_map line) (take_more xs i d low) ∙ flat_map-append line (take i xs) (get_or xs i d ∷ [])
    ∙ ap (λ text. flat_map line (take i xs) ++ text) (append-nil (line (get_or xs i d))))
