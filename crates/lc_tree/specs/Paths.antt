-- The paths of a tree.
use Rattle.std.specs.Prelude.{ℕ, List, [], ◌∷◌}
use Rattle.lc_glob.specs.Path.{segments_of}

-- the names on the way from the top to a path; the empty path, which is the top itself, has none
abbrev pub names_of_path : List ℕ → List (List ℕ)
names_of_path [] = []
names_of_path (b ∷ bs) = segments_of (b ∷ bs)
