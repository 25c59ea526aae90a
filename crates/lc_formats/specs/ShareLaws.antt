-- What is true of shares and bars.
use Rattle.std.specs.Prelude.{◌≡◌, ◌<◌, ◌≤◌, ◌+◌, ◌*◌, ◌/◌, ℕ, length, chars}
use Rattle.lc_formats.specs.Shares.{bar, rounded_parts}

-- a share is at most half a part above the quotient, and less than half a part below it
abbrev pub NearestLaw : Type 0
NearestLaw =
    (count part whole : ℕ) → 0 < whole
    → (2 * whole * rounded_parts count part whole ≤ 2 * count * part + whole)
    × (2 * count * part < 2 * whole * rounded_parts count part whole + whole)

-- the whole has all parts
abbrev pub WholeLaw : Type 0
WholeLaw = (count whole : ℕ) → 0 < whole → rounded_parts count whole whole ≡ count

-- a part of a whole has no more parts than the whole
abbrev pub PartsLaw : Type 0
PartsLaw = (count part whole : ℕ) → part ≤ whole → rounded_parts count part whole ≤ count

-- a bar has a character for each cell that it fills or begins
abbrev pub BarLengthLaw : Type 0
BarLengthLaw = (eighths : ℕ) → length (chars (bar eighths)) ≡ (eighths + 7) / 8
