-- The bytes that a loop over pieces has left.
use Rattle.std.proofs.Common.{ℕ, suc, List, length, Option, Some, None}
use Rattle.std.specs.Borrow.{Bor}

-- those of the rest, and one for the piece before their end
abbrev pub bytes_left : Option (Bor (List ℕ)) → ℕ
bytes_left None = 0
bytes_left (Some rest) = suc (length rest.now)
