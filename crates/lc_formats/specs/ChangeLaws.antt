-- What is true of the changes of numbers.
use Rattle.std.specs.Prelude.{◌≡◌, ◌<◌, ◌≤◌, ◌^◌, ◌+◌, ◌*◌, ◌==◌, ℕ, not, if◌then◌else◌, List, [], ◌∷◌, ◌++◌, filter, codes}
use Rattle.std.specs.{Int.abs_diff, Str.Parse.digits_value}
use Rattle.lc_formats.specs.{CellWords.{change_word, growth_word, sign}, Shares.share_word}

-- the number whose digits a text has, without the commas
abbrev pub number_in : List ℕ → ℕ
number_in text = digits_value 10 (filter (λ d. not (d == 44)) text)

-- by how much a number grew, as the text of its change says; by how much it shrank is below
abbrev pub gained : List ℕ → ℕ
gained [] = 0
gained (c ∷ cs) = if c == 43 then number_in cs else 0

abbrev pub lost : List ℕ → ℕ
lost [] = 0
lost (c ∷ cs) = if c == 45 then number_in cs else 0

-- the old number and its change add up to the new number
abbrev pub ChangeLaw : Type 0
ChangeLaw =
    (old new : ℕ) → old < 2 ^ 128 → new < 2 ^ 128
    → old + gained (change_word old new) ≡ new + lost (change_word old new)

-- the change of a number that is the same is a zero without a sign
abbrev pub NoChangeLaw : Type 0
NoChangeLaw = (n : ℕ) → change_word n n ≡ codes "0"

-- a change in per cent of a number above 0 has the sign of the change, and its size is rounded half up: it is at most half a tenth of a per
-- cent above the quotient, and less than half a tenth below it
abbrev pub GrowthLaw : Type 0
GrowthLaw =
    (old new : ℕ) → 0 < old
    → (tenths : ℕ) × (growth_word old new ≡ sign old new ++ share_word tenths)
    × (2 * old * tenths ≤ 2 * 1000 * abs_diff old new + old) × (2 * 1000 * abs_diff old new < 2 * old * tenths + old)
