-- What a read of a reader of std may give, by the bytes that it is known to have left.
use Rattle.std.specs.{Prelude.{◌≡◌, ℕ, ◌<◌, List, [], Option}, Io.KnownBytes.{Consumes, IsAtEnd, Keeps}}
use Rattle.lc_io.specs.Reads.{Answer, gave, failed}

-- a piece has the first of the known bytes, and if the buffer is not empty, it is empty only if no byte is left; a failure leaves the known
-- bytes as they were
abbrev pub StdGives : Option (List ℕ) → ℕ → Answer → Option (List ℕ) → Type 0
StdGives old room (gave piece) new = Consumes old new piece × (piece ≡ [] → 0 < room → IsAtEnd new)
StdGives old room failed new = Keeps old new
