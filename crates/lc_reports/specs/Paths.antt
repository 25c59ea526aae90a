-- Files of several reports that have the same path.
use Rattle.std.specs.{Prelude.{◌≡◌, ℕ, ◌≤◌, Bool, false, if◌then◌else◌, List, [], ◌∷◌, flat_map, map, Option, Some, None}, List.count_by}
use Rattle.std.specs.{Ordering.is_lt, Str.bytes_eq}
use Rattle.lc_level.specs.Level.{FileLineModel}
use Rattle.lc_tree.specs.ByteOrder.{bytes_cmp}
use Rattle.lc_reports.specs.declared.part.Part.{Part}

-- the paths of all files that the reports list
abbrev pub paths_of : List Part → List (List ℕ)
paths_of ps = flat_map (λ (p : Part). map (λ (f : FileLineModel). f.path) p.report.files.items) ps

-- two or more of these paths are equal to this path
abbrev pub IsTwice : List ℕ → List (List ℕ) → Type 0
IsTwice path paths = 2 ≤ count_by (bytes_eq path) paths

-- no path is twice among these paths
abbrev pub AreApart : List (List ℕ) → Type 0
AreApart paths = (path : List ℕ) → IsTwice path paths → ⊥

-- this path is twice among these paths, and no path before it, in the order of bytes, is
pub record IsFirstTwice (path : List ℕ) (paths : List (List ℕ)) : Type 0 where
  pub twice : IsTwice path paths
  pub first : (other : List ℕ) → IsTwice other paths → is_lt (bytes_cmp other path) ≡ false

-- whether a path is equal to the first of these; and the first path of a sorted list that is equal to the next one
abbrev pub is_first : List ℕ → List (List ℕ) → Bool
is_first path [] = false
is_first path (next ∷ paths) = bytes_eq next path

abbrev pub first_repeated : List (List ℕ) → Option (List ℕ)
first_repeated [] = None
first_repeated (path ∷ paths) = if is_first path paths then Some path else first_repeated paths
