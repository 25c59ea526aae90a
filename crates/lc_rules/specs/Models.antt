-- The values of the code's types, as definitions see them.
use Rattle.std.specs.Prelude.{ℕ, List, Option, Some, None}
use Rattle.lc_glob.specs.Reading.{pattern_of}
use Rattle.lc_rules.specs.{Attributes.{StateModel, set, unset, value, unspecified, AssignmentModel, MacroModel}, AttrLines.PatternLineModel}
use Rattle.lc_rules.specs.{AttrLines.{AttrLineModel, macro_line, pattern_line}, WrittenLines.assigned}
use Rattle.lc_rules.specs.declared.{states.State.{State, TheVariants.{Set, Unset, Value, Unspecified}}, assignment.Assignment.Assignment}
use Rattle.lc_rules.specs.declared.attr_line.{AttrLine.{AttrLine, TheVariants.{Macro, Pattern}}, MacroLine.MacroLine}
use Rattle.lc_rules.specs.declared.attr_line.{PatternLine.PatternLine, PatternText.{PatternText, TheVariants.{Written, Unquoted}}}
use Rattle.lc_rules.specs.declared.macro_table.Macro.{Macro as CodeMacro}

-- the state of an attribute
abbrev pub state_model : State → StateModel
state_model Set = set
state_model Unset = unset
state_model (Value v) = value v.now
state_model Unspecified = unspecified

-- an assignment of the code, and a macro of the code
abbrev pub assignment_model : Assignment → AssignmentModel
assignment_model a = (a.name.now, state_model a.state)

abbrev pub macro_model : CodeMacro → MacroModel
macro_model m = (m.name.items, assigned m.assignments.items)

-- the bytes of a pattern
abbrev pub pattern_bytes : PatternText → List ℕ
pattern_bytes (Written bytes) = bytes.now
pattern_bytes (Unquoted bytes) = bytes.items

-- what a line of an attribute file gives: a macro, or a pattern with assignments
abbrev pub macro_line_model : MacroLine → MacroModel
macro_line_model l = (l.name.now, assigned l.assignments.now)

abbrev pub pattern_line_model : PatternLine → PatternLineModel
pattern_line_model l = record { pattern = pattern_of (pattern_bytes l.pattern); assigns = assigned l.assignments.now }

abbrev pub attr_line_model : AttrLine → AttrLineModel
attr_line_model (Macro l) = macro_line (macro_line_model l)
attr_line_model (Pattern l) = pattern_line (pattern_line_model l)

-- a state, an assignment or a line that the code may have found
abbrev pub seen_state : Option State → Option StateModel
seen_state None = None
seen_state (Some s) = Some (state_model s)

abbrev pub seen_assign : Option Assignment → Option AssignmentModel
seen_assign None = None
seen_assign (Some a) = Some (assignment_model a)

abbrev pub seen_halves : Option PatternLine → Option (List ℕ × List ℕ)
seen_halves None = None
seen_halves (Some l) = Some (pattern_bytes l.pattern, l.assignments.now)

abbrev pub seen_line : Option AttrLine → Option AttrLineModel
seen_line None = None
seen_line (Some l) = Some (attr_line_model l)
