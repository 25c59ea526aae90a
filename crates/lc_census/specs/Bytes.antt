-- The bytes that a census tells apart.
use Rattle.std.specs.Prelude.{ℕ, Bool, ◌||◌, ◌==◌, cond}

abbrev pub is_lf : ℕ → Bool
is_lf byte = byte == 10

abbrev pub is_cr : ℕ → Bool
is_cr byte = byte == 13

-- a byte of a line end
abbrev pub is_end : ℕ → Bool
is_end byte = is_lf byte || is_cr byte

-- a space or a tab
abbrev pub is_space : ℕ → Bool
is_space byte = byte == 32 || byte == 9

abbrev pub is_nul : ℕ → Bool
is_nul byte = byte == 0

-- 1 if b is true, and 0 otherwise
abbrev pub one_if : Bool → ℕ
one_if b = cond b 1 0
