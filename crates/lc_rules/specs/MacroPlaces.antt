-- The places of the macros of a file, by their names.
use Rattle.std.specs.{Prelude.{◌≡◌, ℕ, suc, if◌then◌else◌, List, [], ◌∷◌, Option, Some, None, Vec}, Str.bytes_eq, Ordering.nat_cmp}
use Rattle.std.specs.{Cmp.Lexicographic.slice_cmp, BTreeMap.BTreeMap, Global.Global}
use Rattle.lc_rules.specs.Attributes.{MacroModel}
use Rattle.std.specs.BTreeMap as tree

-- the place of a name in a list with one more element at its front: one more than the place in the rest of the list, or else the front's
abbrev pub place_behind : Option ℕ → Option ℕ → Option ℕ
place_behind (Some i) front = Some (suc i)
place_behind None front = front

-- the place of the last macro of a name
abbrev pub last_place : List MacroModel → List ℕ → Option ℕ
last_place [] name = None
last_place (m ∷ ms) name = place_behind (last_place ms name) (if bytes_eq m.0 name then Some 0 else None)

-- the place that a map has for a name
abbrev pub place_in : BTreeMap (Vec ℕ Global) ℕ → List ℕ → Option ℕ
place_in places name = tree.get_by (λ k. slice_cmp nat_cmp name k.items) places

-- the map has the place of the last macro of each name, and no other place
abbrev pub HasPlaces : List MacroModel → BTreeMap (Vec ℕ Global) ℕ → Type 0
HasPlaces ms places = (name : List ℕ) → place_in places name ≡ last_place ms name
