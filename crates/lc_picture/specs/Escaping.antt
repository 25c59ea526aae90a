-- Texts in HTML: bytes that could be markup are character references.
use Rattle.std.specs.{Prelude.{ℕ, ◌+◌, ◌/◌, ◌%◌, nat_eq, Bool, if◌then◌else◌, List, [], ◌∷◌, flat_map, codes}, List.list_any}

-- the bytes that can begin or end a tag, a character reference or an attribute
abbrev pub is_markup : ℕ → Bool
is_markup b = list_any (λ m. nat_eq m b) (codes "&<>\"'")

-- `&#`, the two digits of the byte, and `;`
abbrev pub reference : ℕ → List ℕ
reference b = 38 ∷ 35 ∷ (48 + b / 10) ∷ (48 + b % 10) ∷ 59 ∷ []

abbrev pub escaped_byte : ℕ → List ℕ
escaped_byte b = if is_markup b then reference b else b ∷ []

abbrev pub html : List ℕ → List ℕ
html t = flat_map escaped_byte t
