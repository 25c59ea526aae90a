-- The names in a directory of the system, by the bytes that its reads return.
use Rattle.std.specs.{Prelude.{◌≡◌, ℕ, nat_eq, not, if◌then◌else◌, List, [], ◌∷◌, ◌++◌, filter}, List.{ends_with, flat_map}}
use Rattle.lc_io.specs.Reads.{Answer, AnyRoom, Reads, at_end}
use Rattle.lc_glob.specs.{Bytes.{nul, slash}, Path.is_no_name, Pieces.pieces_of}

-- the names in the bytes of one read, each with a NUL byte after it, except `.` and `..`
abbrev pub names_in : List ℕ → List (List ℕ)
names_in bytes = filter (λ name. not (is_no_name name)) (pieces_of nul bytes)

-- the names that the reads of a directory returned up to its end, in their order; no read ends inside a name
abbrev pub AreNamesRead : {D : Type 0} → (D → ℕ → Answer → D → Type 0) → D → List (List ℕ) → D → Type 0
AreNamesRead may_give old names new =
    (pieces : List (List ℕ)) × Reads may_give AnyRoom old pieces at_end new × (names ≡ flat_map names_in pieces)

-- the path with a slash at its end, which is added if there is none
abbrev pub with_slash : List ℕ → List ℕ
with_slash path = if ends_with nat_eq path (slash ∷ []) then path else path ++ slash ∷ []
