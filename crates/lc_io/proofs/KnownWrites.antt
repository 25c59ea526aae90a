-- What a writer is known to hold after a write that took nothing, and another.
use Rattle.std.proofs.Common.{◌∙◌, ◌++◌, ℕ, List, Option, Some, None, ap}
use Rattle.std.specs.Io.KnownBytes.{Keeps, Appends}

-- after two writes that took nothing it holds what it held
pub keeps_and_keeps : (old mid new : Option (List ℕ)) → Keeps old mid → Keeps mid new → Keeps old new
keeps_and_keeps None mid new one two = tt
keeps_and_keeps (Some xs) None new one two = absurd one
keeps_and_keeps (Some xs) (Some ys) None one two = absurd two
keeps_and_keeps (Some xs) (Some ys) (Some zs) one two = two ∙ one

-- a write that took nothing and one that took bytes are one that took these
pub keeps_and_appends : (old mid new : Option (List ℕ)) (bytes : List ℕ) → Keeps old mid → Appends mid new bytes → Appends old new bytes
keeps_and_appends None mid new bytes one two = tt
keeps_and_appends (Some xs) None new bytes one two = absurd one
keeps_and_appends (Some xs) (Some ys) None bytes one two = absurd two
keeps_and_appends (Some xs) (Some ys) (Some zs) bytes one two = two ∙ ap (λ l. l ++ bytes) one
