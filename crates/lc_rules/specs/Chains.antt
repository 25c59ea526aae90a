-- A chain of files from the top down, each with its depth.
use Rattle.std.specs.{Prelude.{ℕ, List, [], ◌∷◌, ◌++◌, Option, Some, None}, declared.sync.Arc.Arc, Arc.arc_value}
use Rattle.smallvec.specs.SmallVec.{SmallVec}

-- a chain with one more file, which overrides all files before it, or the unchanged chain if there is no file
abbrev pub with_file : {R A : Type 0} → List (ℕ × R) → ℕ → Option (Arc R A) → List (ℕ × R)
with_file chain depth None = chain
with_file chain depth (Some file) = chain ++ ((depth, arc_value file) ∷ [])

-- the file that an `Arc` holds, if there is one
abbrev pub lent : {R A : Type 0} → Option (Arc R A) → Option R
lent None = None
lent (Some file) = Some (arc_value file)

-- the depth and the file of an entry; a blank entry has no file
abbrev pub entry_file : {R : Type 0} → ℕ × Option R → Option (ℕ × R)
entry_file (depth, None) = None
entry_file (depth, Some file) = Some (depth, file)

-- the entries of a chain; there are none if no file was added
abbrev pub entries_in : {F : Type 0} → Option (SmallVec F) → List F
entries_in None = []
entries_in (Some files) = files.items
