-- The value that a word of attributes asks for.
use Rattle.std.proofs.Common.{◌≡◌, ◌∙◌, ◌||◌, ℕ, Bool, true, false, cond, List, [], ◌∷◌, ◌++◌, length, refl, sym, ap, arith, Option, Some}
use Rattle.std.proofs.{Common.{None, MatchOption}, lemmas.List.{length-take, Folds.{list_any-append, list_any_none}}}
use Rattle.std.proofs.lemmas.List.Sums.{fails_before_first}
use Rattle.std.specs.{Borrow.Bor, List.{list_any, before_first, after_first, position_or_len}, Prelude.option_map}
use Rattle.lc_glob.specs.Pieces.{is_byte}
use Rattle.lc_level.specs.Filters.{value_of}

-- bytes with no such byte before their end are all before the first
none_first : (p : ℕ → Bool) (word : List ℕ) → word ≡ before_first p word → list_any p word ≡ false
none_first p word all = list_any_none p word (λ k d low. fails_before_first p word k d
    (omega (arith, low, ap length all, length-take (position_or_len p word) word)))

-- bytes that one follows have it
some_first : (p : ℕ → Bool) (word front rest : List ℕ) (b : ℕ) → p b ≡ true → word ≡ front ++ b ∷ rest → list_any p word ≡ true
some_first p word front rest b passes whole =
    ap (list_any p) whole ∙ list_any-append p front (b ∷ rest) ∙ ap (λ c. list_any p front || (c || list_any p rest)) passes
    ∙ or_true (list_any p front)
  where
    or_true : (c : Bool) → (c || true) ≡ true
    or_true true = refl
    or_true false = refl

-- the value that a word asks for is what follows its first equals sign
pub value_split : (word front : List ℕ) (rest : Option (Bor (List ℕ))) → front ≡ before_first (is_byte 61) word
    → MatchOption rest (after_first (is_byte 61) word ≡ []) (λ r. r.now ≡ after_first (is_byte 61) word)
    → MatchOption rest (word ≡ front) (λ r. word ≡ front ++ 61 ∷ r.now)
    → option_map (λ (r : Bor (List ℕ)). r.now) rest ≡ value_of word
value_split word front None is after whole =
    sym (ap (λ b. cond b (Some (after_first (is_byte 61) word)) None) (none_first (is_byte 61) word (whole ∙ is)))
value_split word front (Some r) is after whole =
    ap Some after
    ∙ sym (ap (λ b. cond b (Some (after_first (is_byte 61) word)) None) (some_first (is_byte 61) word front r.now 61 refl whole))
