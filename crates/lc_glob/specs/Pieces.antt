-- Lists that are cut at each element that separates.
use Rattle.std.specs.{Prelude.{ℕ, ◌==◌, Bool, List, [], Option, Some, None}, Borrow.Bor, List.slice_split}

-- whether a byte is this one
abbrev pub is_byte : ℕ → ℕ → Bool
is_byte byte b = b == byte

-- the pieces of bytes that are cut at each occurrence of one byte: one piece more than there are occurrences
abbrev pub pieces_of : ℕ → List ℕ → List (List ℕ)
pieces_of byte bytes = slice_split (λ b. b == byte) bytes

-- the pieces of the elements that are left, cut at each element that separates, or no pieces
abbrev pub cuts_left : {A : Type 0} → (A → Bool) → Option (Bor (List A)) → List (List A)
cuts_left separates None = []
cuts_left separates (Some rest) = slice_split separates rest.now

-- the pieces of the bytes that are left, cut at each occurrence of one byte, or no pieces
abbrev pub pieces_left : ℕ → Option (Bor (List ℕ)) → List (List ℕ)
pieces_left byte rest = cuts_left (λ b. b == byte) rest
