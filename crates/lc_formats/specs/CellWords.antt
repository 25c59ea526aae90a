-- Numbers in cells.
use Rattle.std.specs.{Prelude.{ℕ, ◌%◌, ◌==◌, ◌&&◌, nat_lt, if◌then◌else◌, List, [], ◌∷◌, ◌++◌, length, codes, decimal}, Int.abs_diff}
use Rattle.lc_formats.specs.Shares.{rounded_parts, share_word}

-- a comma if the number of digits that follow is a multiple of three and not 0
abbrev pub comma : List ℕ → List ℕ
comma digits = if nat_lt 0 (length digits) && (length digits % 3 == 0) then codes "," else []

abbrev pub with_commas : List ℕ → List ℕ
with_commas [] = []
with_commas (d ∷ ds) = d ∷ (comma ds ++ with_commas ds)

-- the sign of a change: `+` if the number grew, `-` if it shrank, and nothing if it is the same
abbrev pub sign : ℕ → ℕ → List ℕ
sign old new = if nat_lt old new then codes "+" else if nat_lt new old then codes "-" else []

-- the change from one number to another: its sign, and then the difference with commas
abbrev pub change_word : ℕ → ℕ → List ℕ
change_word old new = sign old new ++ with_commas (decimal (abs_diff old new))

-- the change from one number to another in per cent of the old number: its sign, and then its size; `new` or nothing if the old number is 0
abbrev pub growth_word : ℕ → ℕ → List ℕ
growth_word old new =
    if old == 0 then if new == 0 then [] else codes "new" else sign old new ++ share_word (rounded_parts 1000 (abs_diff old new) old)
