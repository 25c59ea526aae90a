-- Byte tests, each of which is counted, and what a test of the first or the last byte of a segment shows.
use Rattle.std.specs.Prelude.{ℕ, Bool, if◌then◌else◌, ◌≡◌, ◌+◌, ◌-◌, ◌^◌, min, List, [], ◌∷◌, ◌++◌, Option, Some, None, IsTrue, IsFalse}
use Rattle.lc_glob.specs.{Tokens.{TokenModel, takes}, declared.path_segment.PathSegment.PathSegment}

-- the number of tests made, after more of them; it stops at the greatest u64
abbrev pub tests_after : ℕ → ℕ → ℕ
tests_after made more = min (made + more) (2 ^ 64 - 1)

-- the number of tests made, after more of them if `is_made` is true
abbrev pub tests_if : Bool → ℕ → ℕ → ℕ
tests_if is_made made more = if is_made then tests_after made more else made

-- the rest is the bytes without the first; None if there is no byte
abbrev pub SkipsFirst : List ℕ → Option PathSegment → Type 0
SkipsFirst bytes None = bytes ≡ []
SkipsFirst bytes (Some rest) = (x : ℕ) × (bytes ≡ x ∷ rest.bytes.now)

-- the rest is the bytes without the first, for which the token stands; None if the token stands for no first byte
abbrev pub StripsFirst : TokenModel → List ℕ → Option PathSegment → Type 0
StripsFirst u bytes None = (x : ℕ) (rest : List ℕ) → bytes ≡ x ∷ rest → IsFalse (takes u x)
StripsFirst u bytes (Some rest) = (x : ℕ) × (bytes ≡ x ∷ rest.bytes.now) × IsTrue (takes u x)

-- the rest is the bytes without the last, for which the token stands; None if the token stands for no last byte
abbrev pub StripsLast : TokenModel → List ℕ → Option PathSegment → Type 0
StripsLast u bytes None = (x : ℕ) (rest : List ℕ) → bytes ≡ rest ++ x ∷ [] → IsFalse (takes u x)
StripsLast u bytes (Some rest) = (x : ℕ) × (bytes ≡ rest.bytes.now ++ x ∷ []) × IsTrue (takes u x)
