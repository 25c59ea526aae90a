-- What a file of rules is limited to.
use Rattle.std.specs.Prelude.{ℕ}

-- the most bytes of an ignore file or an attribute file
abbrev pub max_rule_bytes : ℕ
max_rule_bytes = 1048576
