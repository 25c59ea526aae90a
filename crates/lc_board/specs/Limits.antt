-- How large a board may be.
use Rattle.std.specs.Prelude.{ℕ}

-- the most numbers that a board may have
abbrev pub capacity_limit : ℕ
capacity_limit = 1048576

-- the most workers that may share a board
abbrev pub workers_limit : ℕ
workers_limit = 16
