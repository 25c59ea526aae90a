-- The columns of attributes and of languages that the texts of `--by` and `--where` name.
use Rattle.std.specs.Prelude.{◌==◌, ◌||◌, ◌-◌, nat_lt, ℕ, Bool, if◌then◌else◌, cond, filter, is_some, min, List, [], ◌∷◌, ◌++◌, length}
use Rattle.std.specs.Prelude.{take, Option, Some, None}
use Rattle.std.specs.{List.{filter_map, position_or_len}, Str.bytes_eq}
use Rattle.lc_glob.specs.Pieces.{pieces_of}
use Rattle.lc_rules.specs.{AttrWords.is_name, Bytes.{equals_sign, space}}
use Rattle.lc_sheet.specs.AttributeColumns.{attribute_front, language_name}
use Rattle.lc_arguments.specs.Texts.{after_front, comma, exclamation_mark, greater_sign, less_sign}

-- a name, if it is that of an attribute's column: `attr:NAME`, where an attribute can have the name NAME (gitattributes(5), DESCRIPTION)
abbrev pub attribute_if : List ℕ → Option (List ℕ) → Option (List ℕ)
attribute_if name None = None
attribute_if name (Some attribute) = if is_name attribute then Some name else None

abbrev pub attribute_named : List ℕ → Option (List ℕ)
attribute_named name = attribute_if name (after_front attribute_front name)

abbrev pub names_attribute : List ℕ → Bool
names_attribute name = is_some (attribute_named name)

-- a name, if it is that of the column of languages or of an attribute's
abbrev pub column_named : List ℕ → Option (List ℕ)
column_named name = if bytes_eq name language_name then Some language_name else attribute_named name

abbrev pub names_column : List ℕ → Bool
names_column name = is_some (column_named name)

-- how often a name is in a list of names
abbrev pub how_often : List ℕ → List (List ℕ) → ℕ
how_often name names = length (filter (bytes_eq name) names)

-- the column of languages, if it is among these names
abbrev pub languages_in : List (List ℕ) → List (List ℕ)
languages_in names = cond (nat_lt 0 (how_often language_name names)) (language_name ∷ []) []

-- the columns that the text of `--by` names: that of languages, and then those of attributes in the order of the text
abbrev pub attributes_by : Option (List ℕ) → List (List ℕ)
attributes_by None = []
attributes_by (Some text) = languages_in (pieces_of comma text) ++ filter_map attribute_named (pieces_of comma text)

-- what ends the name of a column in a condition: a space, or the first byte of an operator
abbrev pub ends_name : ℕ → Bool
ends_name b = b == space || b == equals_sign || b == exclamation_mark || b == less_sign || b == greater_sign

-- the text of a condition after the name of its column; the name is below
abbrev pub after_name : List ℕ → List ℕ
after_name [] = []
after_name (b ∷ bs) = if ends_name b then b ∷ bs else after_name bs

abbrev pub name_in : List ℕ → List ℕ
name_in text = take (length text - length (after_name text)) text

-- the column of languages or of an attribute that a condition tests, if it tests one
abbrev pub column_tested : List ℕ → Option (List ℕ)
column_tested text = column_named (name_in text)

abbrev pub is_among : List (List ℕ) → List ℕ → Bool
is_among names name = nat_lt (position_or_len (bytes_eq name) names) (length names)

-- the names that are not among those before, each once
abbrev pub new_names : List (List ℕ) → List (List ℕ) → List (List ℕ)
new_names before [] = []
new_names before (n ∷ ns) = if is_among before n then new_names before ns else n ∷ new_names (before ++ n ∷ []) ns

-- the columns that are asked for: those of `--by`, and then the others that conditions test
abbrev pub attributes_asked : Option (List ℕ) → List (List ℕ) → List (List ℕ)
attributes_asked by texts =
    attributes_by by ++ new_names (attributes_by by) (filter_map column_tested texts)

-- the place of a name among names: how many are before it
abbrev pub place_of : List ℕ → List (List ℕ) → ℕ
place_of name names = min 255 (position_or_len (bytes_eq name) names)
