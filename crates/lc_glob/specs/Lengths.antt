-- How long names are, and which segments may fit names of such lengths.
use Rattle.std.specs.{Prelude.{ℕ, ◌≤◌, ◌+◌, not, List, [], ◌∷◌, length, if◌then◌else◌}, List.All}
use Rattle.lc_glob.specs.{Tokens.{TokenModel, is_star}, Fits.Fits, Patterns.{SegmentModel, plain, double_star}}
use Rattle.lc_glob.specs.declared.lengths.Lengths.{Lengths}

-- a name is no shorter than the shortest, and no longer than the longest
abbrev pub IsBetween : Lengths → List ℕ → Type 0
IsBetween lengths name = (lengths.shortest ≤ length name) × (length name ≤ lengths.longest)

-- each of the names has a length between the shortest and the longest
abbrev pub AreBetween : Lengths → List (List ℕ) → Type 0
AreBetween lengths names = All (IsBetween lengths) names

-- a plain segment fits some name with a length between these bounds; a double star needs no name
abbrev pub FitsSome : Lengths → SegmentModel → Type 0
FitsSome lengths (plain us) = (name : List ℕ) × IsBetween lengths name × Fits us name
FitsSome lengths double_star = Unit {0}

-- how many of the tokens are not stars: a name that the tokens fit has at least this number of bytes
abbrev pub least_bytes : List TokenModel → ℕ
least_bytes [] = 0
least_bytes (u ∷ us) = if not (is_star u) then 1 + least_bytes us else least_bytes us
