-- Which assignment decides each attribute of a path: gitattributes(5), DESCRIPTION and USING MACRO ATTRIBUTES.
use Rattle.std.specs.Prelude.{◌≡◌, ℕ, zero, suc, ◌+◌, Bool, true, false, if◌then◌else◌, List, [], ◌∷◌, ◌++◌, length, reverse, Option}
use Rattle.std.specs.{Prelude.{Some, None, is_some, unwrap_or}, Str.bytes_eq}
use Rattle.lc_rules.specs.Attributes.{StateModel, set, unset, value, unspecified, AssignmentModel, MacroModel}

-- the state that a list of decided names has for a name
abbrev pub decided : List AssignmentModel → List ℕ → Option StateModel
decided [] name = None
decided (a ∷ d) name = if bytes_eq a.0 name then Some a.1 else decided d name

-- whether a name is decided
abbrev pub has : List AssignmentModel → List ℕ → Bool
has d name = is_some (decided d name)

-- the assignments of a later definition of a macro, or else those of an earlier one
abbrev pub later : Option (List AssignmentModel) → Option (List AssignmentModel) → Option (List AssignmentModel)
later None first = first
later (Some body) first = Some body

-- the assignments of the macro of a name: of its last definition, which replaces those before it
abbrev pub macro_of : List MacroModel → List ℕ → Option (List AssignmentModel)
macro_of [] name = None
macro_of (m ∷ ms) name = later (macro_of ms name) (if bytes_eq m.0 name then Some m.1 else None)

-- the assignments that are read where an assignment decides its name: if it sets a macro, the macro's assignments from right to left
abbrev pub expansion : List MacroModel → AssignmentModel → List AssignmentModel
expansion ms (name, set) = reverse (unwrap_or (macro_of ms name) [])
expansion ms (name, unset) = []
expansion ms (name, value v) = []
expansion ms (name, unspecified) = []

-- The decision: what is decided after the assignments of a list, from the highest precedence to the lowest, where `d`
-- is decided before. These three equations say what it is: the law of the function `decides_by_equations` is that
-- `decide` below keeps them, and that nothing else does.
pub record IsDecision (ms : List MacroModel) (decide : List AssignmentModel → List AssignmentModel → List AssignmentModel) : Type 0 where
  -- nothing is left to be read
  pub none : (d : List AssignmentModel) → decide [] d ≡ d
  -- a name that is decided stays so
  pub skip : (a : AssignmentModel) (rest d : List AssignmentModel) → has d a.0 ≡ true → decide (a ∷ rest) d ≡ decide rest d
  -- the first assignment of a name decides it, and what it expands to is read before the rest
  pub take : (a : AssignmentModel) (rest d : List AssignmentModel) → has d a.0 ≡ false
      → decide (a ∷ rest) d ≡ decide (expansion ms a ++ rest) (a ∷ d)

-- the decision, within this many steps
abbrev pub decide_within : List MacroModel → ℕ → List AssignmentModel → List AssignmentModel → List AssignmentModel
decide_within ms zero todo d = d
decide_within ms (suc k) [] d = d
decide_within ms (suc k) (a ∷ r) d =
    if has d a.0 then decide_within ms k r d else decide_within ms k (expansion ms a ++ r) (a ∷ d)

-- enough steps for the macros that are not decided: one for each macro, and one for each of its assignments
abbrev pub unread : List MacroModel → List AssignmentModel → ℕ
unread [] d = 0
unread (m ∷ ms) d = (if has d m.0 then 0 else suc (length m.1)) + unread ms d

-- the decision of all names
unfoldable pub decide : List MacroModel → List AssignmentModel → List AssignmentModel → List AssignmentModel
decide ms todo d = decide_within ms (length todo + unread ms d) todo d

-- for all macros, `decide` keeps the three equations, and any function that keeps them decides as `decide` does
abbrev pub DecidesByEquations : Type 0
DecidesByEquations =
    (ms : List MacroModel)
    → IsDecision ms (decide ms)
    × ((other : List AssignmentModel → List AssignmentModel → List AssignmentModel) → IsDecision ms other
    → (todo d : List AssignmentModel) → other todo d ≡ decide ms todo d)
