-- What is written of a text in single quotes, byte by byte and character by character.
use Rattle.std.proofs.Common.{◌≡◌, ℕ, ◌<◌, ◌==◌, Bool, true, false, suc, List, [], ◌∷◌, ◌++◌, length, refl, sym, ap, ap₂, arith, ◌∙◌}
use Rattle.std.proofs.{Common.{codes, chars, encode_utf8, flat_map, get_or}, lemmas.{Bool.ne_eqb, List.append-nil, Str.inside_one}}
use Rattle.lc_text.specs.Quoting.{apostrophe, quote_byte}

quote_byte-other : (b : ℕ) → (b ≡ apostrophe → ⊥) → quote_byte b ≡ b ∷ []
quote_byte-other b other = rw (ne_eqb b apostrophe other) refl

-- bytes without a single quote stay as they are
pub quote_byte-others : (bs : List ℕ) → ((k : ℕ) → k < length bs → get_or bs k 0 ≡ apostrophe → ⊥) → flat_map quote_byte bs ≡ bs
quote_byte-others [] none = refl
quote_byte-others (b ∷ bs) none =
    ap₂ (λ x y. x ++ y) (quote_byte-other b (none 0 (omega arith)))
    (quote_byte-others bs (λ k l e. none (suc k) (omega (arith, l)) e))

-- and so do those of each other character
pub quote_byte-char : (c : ℕ) → (c ≡ apostrophe → ⊥) → flat_map quote_byte (encode_utf8 c) ≡ encode_utf8 c
quote_byte-char c other =
    quote_byte-others (encode_utf8 c)
    (λ k l e. other (inside_one c [] (encode_utf8 c) k (sym (append-nil (encode_utf8 c))) l (omega (arith, e)) ∙ e))
