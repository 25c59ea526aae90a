-- The states of attributes that a counted file has.
use Rattle.std.specs.Prelude.{List}
use Rattle.lc_rules.specs.{Attributes.{StateModel, set, unset, value, unspecified}, declared.states.TextState.TextState}
use Rattle.lc_level.specs.declared.file_attributes.AttributeState.{AttributeState, TheVariants.{Set, Unset, Value, Unspecified}}

-- the state of `text`, and the states of the attributes that were asked for
pub record FileAttributesModel : Type 0 where
  pub text : TextState
  pub asked : List StateModel

abbrev pub attributes_with : TextState → List StateModel → FileAttributesModel
attributes_with text asked = record { text = text; asked = asked }

-- the state of an attribute, whose value is a copy
abbrev pub owned_state : AttributeState → StateModel
owned_state Set = set
owned_state Unset = unset
owned_state (Value v) = value v.items
owned_state Unspecified = unspecified
