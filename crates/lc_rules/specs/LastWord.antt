-- Where the last word of an attribute line begins.
use Rattle.std.specs.{Prelude.{◌≡◌, ℕ, false, true, List, [], ◌∷◌, ◌++◌, take, drop}, List.list_any}
use Rattle.lc_rules.specs.AttrWords.{is_white}

-- the bytes don't end with white space
abbrev pub EndsBlack : List ℕ → Type 0
EndsBlack bytes = (front : List ℕ) (b : ℕ) → bytes ≡ front ++ (b ∷ []) → is_white b ≡ false

-- no byte from `start` on is white space, and the byte before `start`, if there is one, is
pub record IsLastWordAt (start : ℕ) (bytes : List ℕ) : Type 0 where
  pub black : list_any is_white (drop start bytes) ≡ false
  pub white : (front : List ℕ) (b : ℕ) → take start bytes ≡ front ++ (b ∷ []) → is_white b ≡ true
