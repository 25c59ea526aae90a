-- The bytes that mean something in a file of rules, beside those of a pattern.
use Rattle.std.specs.Prelude.{ℕ}

abbrev pub line_feed : ℕ
line_feed = 10

abbrev pub carriage_return : ℕ
carriage_return = 13

abbrev pub tab : ℕ
tab = 9

abbrev pub space : ℕ
space = 32

-- `"`, which begins and ends a quoted pattern
abbrev pub quotation_mark : ℕ
quotation_mark = 34

-- `#`, which begins a comment
abbrev pub hash : ℕ
hash = 35

-- `=`, which ends a name
abbrev pub equals_sign : ℕ
equals_sign = 61
