-- What the writer for tests accepts.
use Rattle.std.specs.Prelude.{◌≡◌, ℕ, ◌≤◌, List, ◌++◌, length, take, Result, Ok, Err}
use Rattle.lc_io.specs.declared.source.Failed.{Failed}

-- the writer adds some of the first bytes to those that it has, or none
abbrev pub TakesSome : List ℕ → List ℕ → Result ℕ Failed → List ℕ → Type 0
TakesSome old bytes (Ok n) new = (n ≤ length bytes) × (new ≡ old ++ take n bytes)
TakesSome old bytes (Err _) new = new ≡ old
