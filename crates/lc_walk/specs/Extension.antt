-- The extension of a name.
use Rattle.std.specs.Prelude.{ℕ, cond, ◌==◌, List, [], ◌∷◌, Option, Some, None}

-- the bytes after the last dot, if there is a dot
abbrev pub after_last_dot : List ℕ → Option (List ℕ)
after_last_dot [] = None
after_last_dot (b ∷ bs) = elim (after_last_dot bs) [ Some e ↦ Some e | None ↦ cond (b == 46) (Some bs) None ]

-- these bytes, if there is at least one
abbrev pub if_some_bytes : Option (List ℕ) → Option (List ℕ)
if_some_bytes None = None
if_some_bytes (Some []) = None
if_some_bytes (Some (b ∷ bs)) = Some (b ∷ bs)

-- the bytes after the last dot of a name, if this dot is not the first byte and not the last
abbrev pub extension_of : List ℕ → Option (List ℕ)
extension_of [] = None
extension_of (b ∷ bs) = if_some_bytes (after_last_dot bs)
