-- Matching what is left of a pattern and a path, once the pattern's last segments match the end of the path.
use Rattle.std.specs.Prelude.{ℕ, ◌≡◌, List, [], ◌∷◌, ◌++◌}
use Rattle.lc_glob.specs.{Fits.Fits, Patterns.{SegmentModel, plain, double_star}}

-- the segments lead to the end of the names: they match all names, and a double star may match no name, also if it comes last
abbrev pub Leads : List SegmentModel → List (List ℕ) → Type 0
Leads [] [] = Unit {0}
Leads [] (n ∷ ns) = ⊥
Leads (plain us ∷ r) [] = ⊥
Leads (plain us ∷ r) (n ∷ ns) = Fits us n × Leads r ns
Leads (double_star ∷ r) path = (a b : List (List ℕ)) × (path ≡ a ++ b) × Leads r b
