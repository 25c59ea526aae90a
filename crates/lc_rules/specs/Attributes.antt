-- What an attribute is for a path, and what a line says of one: gitattributes(5), DESCRIPTION.
use Rattle.std.specs.Prelude.{ℕ, List}

-- the state of an attribute for a path; a name that no assignment decides is unspecified, too
pub data StateModel : Type 0 where
  set : StateModel
  unset : StateModel
  value : List ℕ → StateModel
  unspecified : StateModel

-- an assignment: a name and its state
abbrev pub AssignmentModel : Type 0
AssignmentModel = List ℕ × StateModel

-- a macro: its name, and its assignments in the order of its line
abbrev pub MacroModel : Type 0
MacroModel = List ℕ × List AssignmentModel
