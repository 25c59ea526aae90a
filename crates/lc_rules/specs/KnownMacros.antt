-- The macros that the code knows while it decides one attribute.
use Rattle.std.specs.{Prelude.{ℕ, Bool, ◌||◌, List, [], ◌∷◌, ◌++◌, reverse, Option, Some, None, is_some}, Str.bytes_eq, List.list_any}
use Rattle.std.specs.Borrow.{Bor}
use Rattle.lc_rules.specs.{Attributes.{StateModel, set, unset, value, unspecified, AssignmentModel, MacroModel}, AttrLines.PatternLineModel}
use Rattle.lc_rules.specs.{AttrStates.binary, WrittenLines.assigned, Decision.macro_of}
use Rattle.lc_rules.specs.declared.known_macros.{KnownMacros.KnownMacros, MacroBody.{MacroBody, TheVariants.{Defined, Binary}}}
use Rattle.lc_rules.specs.declared.resolver.Query.{Query}

-- the macros of a table, or none if there is no table
abbrev pub defined_in : Option (Bor (List MacroModel)) → List MacroModel
defined_in None = []
defined_in (Some table) = table.now

-- the macro `binary`, and the macros of each table
abbrev pub known_macros : KnownMacros → List MacroModel
known_macros m = binary ∷ defined_in m.lowest ++ defined_in m.top ++ defined_in m.info

-- the assignments of a macro
abbrev pub macro_body_model : MacroBody → List AssignmentModel
macro_body_model (Defined assignments) = assigned assignments.now
macro_body_model Binary = binary.1

-- the assignments of a macro that are read if the macro is decided to be in this state
abbrev pub expanded : List AssignmentModel → StateModel → List AssignmentModel
expanded body set = reverse body
expanded body unset = []
expanded body (value v) = []
expanded body unspecified = []

-- whether a name is that of the attribute or of some macro: an assignment of any other name can't decide the attribute
abbrev pub matters : List MacroModel → List ℕ → List ℕ → Bool
matters ms wanted name = bytes_eq name wanted || is_some (macro_of ms name)

-- whether some assignment of these lines is of such a name
abbrev pub some_matters : List MacroModel → List ℕ → List PatternLineModel → Bool
some_matters ms wanted lines = list_any (λ l. list_any (λ a. matters ms wanted a.0) l.assigns) lines

-- the macros whose assignments may decide the attribute of a query
abbrev pub macros_for : Query → List MacroModel
macros_for w = known_macros w.macros
