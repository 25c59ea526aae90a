-- What holds of the lowest file of a chain of attribute files.
use Rattle.std.specs.Prelude.{◌≡◌, ℕ, Bool, true, List, [], None, Some}
use Rattle.lc_rules.specs.{AttrLines.attribute_file_of, AttrStates.{AttrChainModel, assignments_of, file_macros}}
use Rattle.lc_rules.specs.{AttrStates.{macros_of, state_of}, Decision.{decide, has}}

-- a chain without its lowest file
abbrev pub without_lowest : AttrChainModel → AttrChainModel
without_lowest c = record { lowest = None; tree = c.tree; info = c.info }

-- whether the files of a chain decide an attribute for a path
abbrev pub is_decided : AttrChainModel → List ℕ → Bool → List ℕ → Bool
is_decided c path is_dir name = has (decide (macros_of c) (assignments_of c path is_dir) []) name

-- a lowest file that defines no macro decides only what the other files do not: where they decide an attribute, its state is what it is
-- without the file
abbrev pub LowestFileLaw : Type 0
LowestFileLaw =
    (c : AttrChainModel) (path : List ℕ) (is_dir : Bool) (name : List ℕ) → file_macros c.lowest ≡ []
    → is_decided (without_lowest c) path is_dir name ≡ true → state_of c path is_dir name ≡ state_of (without_lowest c) path is_dir name

-- an empty lowest file changes no state
abbrev pub EmptyFileLaw : Type 0
EmptyFileLaw =
    (c : AttrChainModel) (path : List ℕ) (is_dir : Bool) (name : List ℕ) → c.lowest ≡ Some (attribute_file_of true [])
    → state_of c path is_dir name ≡ state_of (without_lowest c) path is_dir name
