-- The words of the states of the attribute `text`.
use Rattle.std.specs.Prelude.{ℕ, List, codes, Option, Some, None}
use Rattle.lc_rules.specs.declared.states.TextState.{TextState, TheVariants.{Set, Unset, Auto, Other, Unspecified}}

-- the word by which reports name a state; an unspecified attribute has none
abbrev pub text_word : TextState → Option (List ℕ)
text_word Set = Some (codes "set")
text_word Unset = Some (codes "unset")
text_word Auto = Some (codes "auto")
text_word Other = Some (codes "other")
text_word Unspecified = None
