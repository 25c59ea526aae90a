-- How far the code has decided one attribute.
use Rattle.std.specs.Prelude.{◌≡◌, ℕ, ◌+◌, Bool, false, List, [], ◌∷◌, ◌++◌, length, map, reverse, Option, Some, MatchOption, IfNone}
use Rattle.std.specs.{Borrow.Bor, BTreeSet.BTreeSet}
use Rattle.lc_rules.specs.{Attributes.{StateModel, set, AssignmentModel, MacroModel}, Decision.{decided, has, unread, decide}}
use Rattle.lc_rules.specs.{Models.{assignment_model, seen_state}, KnownMacros.macros_for}
use Rattle.lc_rules.specs.declared.{resolver.{Query.Query, Resolver.Resolver}, states.State.State, assignment.Assignment.Assignment}

-- these names as decided ones, all in one state, since only whether they are decided matters
abbrev pub marked : List (List ℕ) → List AssignmentModel
marked [] = []
marked (n ∷ ns) = (n, set) ∷ marked ns

-- whether a name is among these decided names
abbrev pub is_marked : List (List ℕ) → List ℕ → Bool
is_marked ns n = has (marked ns) n

-- the state that is decided for the name `wanted`, if these assignments are read and these names of macros are decided before
abbrev pub answer : List MacroModel → List ℕ → List AssignmentModel → List (List ℕ) → Option StateModel
answer ms wanted todo ns = decided (decide ms todo (marked ns)) wanted

-- reading the assignments `todo` finds the state of the name, or leaves other assignments to be read and other names of macros decided
abbrev pub Moves : List MacroModel → List ℕ → List AssignmentModel → List (List ℕ) → Option StateModel → List AssignmentModel
    → List (List ℕ) → Type 0
Moves ms wanted todo before found left after =
    MatchOption found
    ((is_marked after wanted ≡ false)
    × ((rest : List AssignmentModel) → answer ms wanted (todo ++ rest) before ≡ answer ms wanted (left ++ rest) after))
    (λ s. (rest : List AssignmentModel) → answer ms wanted (todo ++ rest) before ≡ Some s)

-- a bound on the number of assignments that may still be read
abbrev pub to_read : List MacroModel → List AssignmentModel → List (List ℕ) → ℕ
to_read ms todo ns = length todo + unread ms (marked ns)

-- the names in a resolver's set of decided macros
abbrev pub names_in : BTreeSet (Bor (List ℕ)) → List (List ℕ)
names_in names = map (λ n. n.now) names.keys

-- the assignments of a stack in the order in which they are read
abbrev pub stacked : List Assignment → List AssignmentModel
stacked words = reverse (map assignment_model words)

-- reading these assignments for a query takes one resolver to another, finds a state or not, and leaves others to be read
abbrev pub ReadsAssignments : Query → List AssignmentModel → Resolver → Option State → List AssignmentModel → Resolver → Type 0
ReadsAssignments query todo old found left new =
    Moves (macros_for query) query.name.now todo (names_in old.decided) (seen_state found) left (names_in new.decided)

-- the attribute is still to be decided, and nothing is left to be read
pub record IsReady (query : Query) (r : Resolver) : Type 0 where
  pub undecided : is_marked (names_in r.decided) query.name.now ≡ false
  pub empty : r.pending.items ≡ []

-- reading these assignments, and what they lead to, finds a state or leaves nothing to be read
pub record Decides (query : Query) (todo : List AssignmentModel) (old : Resolver) (found : Option State) (new : Resolver) : Type 0 where
  pub moves : ReadsAssignments query todo old found [] new
  pub empty : IfNone found (new.pending.items ≡ [])

-- a bound on the number of assignments that a resolver may still read for a query
abbrev pub still_to_read : Query → Resolver → ℕ
still_to_read query r = to_read (macros_for query) (stacked r.pending.items) (names_in r.decided)
