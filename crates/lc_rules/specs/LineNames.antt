-- The names that lines assign.
use Rattle.std.specs.{Prelude.{◌≡◌, ℕ, Bool, true, false, List, Vec, is_some}, List.list_any, Str.bytes_eq, Ordering.nat_cmp}
use Rattle.std.specs.{Cmp.Lexicographic.slice_cmp, BTreeSet.BTreeSet, Global.Global}
use Rattle.lc_rules.specs.{Attributes.{AssignmentModel, MacroModel}, Decision.macro_of, AttrLines.PatternLineModel}
use Rattle.std.specs.BTreeSet as tree

-- whether some assignment is of a name
abbrev pub assigns_name : List AssignmentModel → List ℕ → Bool
assigns_name assigns name = list_any (λ a. bytes_eq a.0 name) assigns

-- whether some line assigns a name
abbrev pub lines_name : List PatternLineModel → List ℕ → Bool
lines_name lines name = list_any (λ l. assigns_name l.assigns name) lines

-- whether a set of names has this name
abbrev pub has_name : BTreeSet (Vec ℕ Global) → List ℕ → Bool
has_name names name = tree.contains_by (λ k. slice_cmp nat_cmp name k.items) names

-- the set has all names that the lines assign
abbrev pub HasNames : List PatternLineModel → BTreeSet (Vec ℕ Global) → Type 0
HasNames lines names = (name : List ℕ) → lines_name lines name ≡ true → has_name names name ≡ true

-- no line assigns the name of one of these macros
abbrev pub NameNone : List PatternLineModel → List MacroModel → Type 0
NameNone lines ms = (name : List ℕ) → is_some (macro_of ms name) ≡ true → lines_name lines name ≡ false
