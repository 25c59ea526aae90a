-- The limit of a count.
use Rattle.std.specs.Prelude.{ℕ}

-- the most reads of one count: 2^32
abbrev pub max_turns : ℕ
max_turns = 4294967296
