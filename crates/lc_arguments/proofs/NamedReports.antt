-- The name of a report among the bytes of a word.
use Rattle.std.proofs.{lemmas.Grind.common_steps, Common.{◌≡◌, ◌∙◌, ◌+◌, ◌||◌, ℕ, Bool, true, false, not, List, [], ◌∷◌, length}}
use Rattle.std.proofs.{Common.{refl, ap, cond, None, arith}}
use Rattle.std.specs.{List.{list_any, position_or_len}}
use Rattle.lc_glob.specs.{Pieces.is_byte}
use Rattle.lc_rules.specs.Bytes.{equals_sign}
use Rattle.lc_arguments.specs.Reports.{named_of}

none_there : (byte : ℕ) (xs : List ℕ) → position_or_len (is_byte byte) xs ≡ length xs → list_any (is_byte byte) xs ≡ false
none_there byte [] none = refl
none_there byte (x ∷ xs) none = go (is_byte byte x) refl (none_there byte xs)
  where
    go : (here : Bool) → is_byte byte x ≡ here → (position_or_len (is_byte byte) xs ≡ length xs → list_any (is_byte byte) xs ≡ false)
        → list_any (is_byte byte) (x ∷ xs) ≡ false
    go true is after =
        let first : position_or_len (is_byte byte) (x ∷ xs) ≡ 0 =
        ap (λ b. cond (not b) (1 + position_or_len (is_byte byte) xs) 0) is in
        absurd (omega (arith, none, first))
    go false is after =
        let later : position_or_len (is_byte byte) (x ∷ xs) ≡ 1 + position_or_len (is_byte byte) xs =
        ap (λ b. cond (not b) (1 + position_or_len (is_byte byte) xs) 0) is in
        ap (λ b. b || list_any (is_byte byte) xs) is ∙ after (omega (arith, none, later))

-- a word without an equals sign is a report without a name
pub unnamed : (word : List ℕ) → position_or_len (is_byte equals_sign) word ≡ length word → named_of word ≡ (None, word)
unnamed word none = grind (arith, common_steps, none_there)
