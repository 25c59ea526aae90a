-- The values of options that may be used several times: attributes and patterns.
use Rattle.std.specs.Prelude.{◌++◌, ◌&&◌, ℕ, Bool, true, not, nat_le, List, [], ◌∷◌, length, flat_map, codes}
use Rattle.std.specs.List.{before_first}
use Rattle.std.specs.List.{list_all, list_any}
use Rattle.lc_glob.specs.Pieces.{is_byte}
use Rattle.lc_rules.specs.{AttrLines.is_negated, AttrWords.is_name, Bytes.{equals_sign, line_feed}, Limits.max_rule_bytes}
use Rattle.lc_arguments.specs.declared.repeated.Repeated.{Repeated}
use Rattle.lc_arguments.specs.declared.repeated.Repeated.TheVariants.{Attributes, Excluded, Included}

-- `ATTR` or `ATTR=VALUE`: an attribute can have the name (gitattributes(5), DESCRIPTION)
abbrev pub has_attribute_name : List ℕ → Bool
has_attribute_name word = is_name (before_first (is_byte equals_sign) word)

-- a pattern that is one line of an ignore file
abbrev pub has_one_line : List ℕ → Bool
has_one_line pattern = not (list_any (is_byte line_feed) pattern)

-- the text of an ignore file with these lines
abbrev pub lines_text : List (List ℕ) → List ℕ
lines_text lines = flat_map (λ line. line ++ line_feed ∷ []) lines

-- the name of an option
abbrev pub id_of : Repeated → List ℕ
id_of Attributes = codes "without"
id_of Excluded = codes "exclude"
id_of Included = codes "include"

-- an option may have this value
abbrev pub is_allowed : Repeated → List ℕ → Bool
is_allowed Attributes word = has_attribute_name word
is_allowed Excluded pattern = has_one_line pattern
is_allowed Included pattern = has_one_line pattern && not (is_negated pattern)

-- the values of an option are short enough: patterns must fit into one ignore file as its lines
abbrev pub are_short : Repeated → List (List ℕ) → Bool
are_short Attributes words = true
are_short Excluded patterns = nat_le (length (lines_text patterns)) max_rule_bytes
are_short Included patterns = nat_le (length (lines_text patterns)) max_rule_bytes

-- an option may have these values together
abbrev pub are_allowed : Repeated → List (List ℕ) → Bool
are_allowed option values = list_all (is_allowed option) values && are_short option values
