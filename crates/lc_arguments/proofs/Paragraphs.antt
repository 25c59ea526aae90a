-- The first paragraph of a text.
use Rattle.std.proofs.Common.{◌≡◌, ◌≢◌, ℕ, ◌<◌, ◌≤◌, List, ◌++◌, length, take, drop, sym, ◌∙◌, ap, append_assoc, arith, length-append}
use Rattle.std.proofs.{Math.Seq.drop-append_seam, lemmas.List.take-append-drop}
use Rattle.std.specs.Str.Iter.{HasSubslice}

-- what is before the first place of a part does not have it
pub none_before : (text front part : List ℕ) (i : ℕ) → front ≡ take i text → length front ≡ i → 1 ≤ length part
    → ((k : ℕ) → k < i → (rest : List ℕ) → drop k text ≢ part ++ rest) → HasSubslice front part → ⊥
none_before text front part i is long some none (a, b, e) =
    let low : length a < i = omega (arith, long, ap length e, length-append a (part ++ b), length-append part b) in
    let whole : text ≡ a ++ (part ++ (b ++ drop i text)) =
    sym (take-append-drop i text) ∙ ap (λ (l : List ℕ). l ++ drop i text) (sym is ∙ e)
    ∙ append_assoc a (part ++ b) (drop i text) ∙ ap (λ (l : List ℕ). a ++ l) (append_assoc part b (drop i text)) in
    none (length a) low (b ++ drop i text)
    (ap (drop (length a)) whole ∙ drop-append_seam a (part ++ (b ++ drop i text)))
