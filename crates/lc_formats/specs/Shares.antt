-- Shares of a total, and bars.
use Rattle.std.specs.Prelude.{ℕ, ◌+◌, ◌-◌, ◌*◌, ◌/◌, ◌%◌, ◌==◌, if◌then◌else◌, List, [], ◌++◌}
use Rattle.std.specs.Prelude.{replicate, flat_map, codes, decimal, encode_utf8}

-- how many of `count` equal parts of a whole a part is, rounded half up; 0 if the whole is 0
abbrev pub rounded_parts : ℕ → ℕ → ℕ → ℕ
rounded_parts count part whole = if whole == 0 then 0 else (2 * count * part + whole) / (2 * whole)

-- the text of a share in tenths of a per cent
abbrev pub share_word : ℕ → List ℕ
share_word tenths = decimal (tenths / 10) ++ codes "." ++ decimal (tenths % 10) ++ codes "%"

-- n full blocks (U+2588)
abbrev pub blocks : ℕ → List ℕ
blocks n = flat_map encode_utf8 (replicate n 0x2588)

-- a block of one to seven eighths (U+258F to U+2589)
abbrev pub last_block : ℕ → List ℕ
last_block eighths = if eighths == 0 then [] else encode_utf8 (0x2590 - eighths)

-- a bar of this many eighths of a cell
abbrev pub bar : ℕ → List ℕ
bar eighths = blocks (eighths / 8) ++ last_block (eighths % 8)

-- how many cells the bar of a whole has in a text that is not narrowed
abbrev pub full_bar : ℕ
full_bar = 20
