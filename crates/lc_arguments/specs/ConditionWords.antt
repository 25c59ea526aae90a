-- The conditions that words ask for: a column, an operator and values, as in `eol=crlf,mixed` and `lines > 1000`.
use Rattle.std.specs.Prelude.{ℕ, ◌==◌, ◌&&◌, ◌||◌, ◌+◌, ◌*◌, ◌-◌, Bool, true, false, not, nat_le, cond, List, [], ◌∷◌, ◌++◌, length, is_some}
use Rattle.std.specs.{Prelude.{codes, Option, Some, None}, List.{filter_map, list_all, list_any}, Str.bytes_eq}
use Rattle.lc_glob.specs.{Bytes.slash, Pieces.{is_byte, pieces_of}}
use Rattle.lc_rules.specs.Bytes.{equals_sign, space}
use Rattle.lc_sheet.specs.{ColumnWords.column_word, Conditions.{ConditionModel, comma, compared, meets, none_of, one_of}}
use Rattle.lc_sheet.specs.{Values.word, declared.change_kinds.ChangeKinds.ChangeKinds}
use Rattle.lc_sheet.specs.declared.column.{Column.{Column, TheVariants.{Change, Key, Number}}, Number.TheVariants.{Lines, Blank, Bytes}}
use Rattle.lc_sheet.specs.declared.key.Key.TheVariants.{Attribute, Ext, Text, Eol}
use Rattle.lc_arguments.specs.{AttributeWords.{after_name, attributes_asked, column_tested, place_of}}
use Rattle.lc_arguments.specs.Texts.{after_front, exclamation_mark, greater_sign, less_sign}
use Rattle.lc_sheet.specs.declared.condition.Comparison.{Comparison, TheVariants.{Less, AtMost, Equal, Unequal, AtLeast, Greater}}

abbrev pub dot : ℕ
dot = 46

abbrev pub without_spaces : List ℕ → List ℕ
without_spaces [] = []
without_spaces (b ∷ bs) = cond (b == space) (without_spaces bs) (b ∷ bs)

-- ---- columns

-- the columns that a condition may be on; `change` compares two sides
abbrev pub condition_columns : List Column
condition_columns = Key Ext ∷ Key Text ∷ Key Eol ∷ Number Lines ∷ Number Blank ∷ Number Bytes ∷ Change ∷ []

abbrev pub or_column : Column → Option (List ℕ) → Option (Column × List ℕ) → Option (Column × List ℕ)
or_column column (Some rest) other = Some (column, rest)
or_column column None other = other

-- the first of these columns whose name begins a text, and the text after the name
abbrev pub column_among : List Column → List ℕ → Option (Column × List ℕ)
column_among [] text = None
column_among (c ∷ cs) text = or_column c (after_front (column_word [] c) text) (column_among cs text)

-- the column of a text and the text after its name: that of languages or of an attribute, or one of those above
abbrev pub or_attribute : List (List ℕ) → List ℕ → Option (List ℕ) → Option (Column × List ℕ)
or_attribute attributes text None = column_among condition_columns text
or_attribute attributes text (Some attribute) = Some (Key (Attribute (place_of attribute attributes)), after_name text)

abbrev pub column_at : List (List ℕ) → List ℕ → Option (Column × List ℕ)
column_at attributes text = or_attribute attributes text (column_tested text)

-- ---- operators

-- the operator that consists of a byte and, if the Bool is true, of an equals sign after the byte
abbrev pub comparison_of : ℕ → Bool → Option Comparison
comparison_of b true =
    cond (b == exclamation_mark) (Some Unequal) (cond (b == less_sign) (Some AtMost) (cond (b == greater_sign) (Some AtLeast) None))
comparison_of b false =
    cond (b == equals_sign) (Some Equal) (cond (b == less_sign) (Some Less) (cond (b == greater_sign) (Some Greater) None))

abbrev pub with_rest : Option Comparison → List ℕ → Option (Comparison × List ℕ)
with_rest None rest = None
with_rest (Some comparison) rest = Some (comparison, rest)

abbrev pub operator_by : ℕ → List ℕ → Option (List ℕ) → Option (Comparison × List ℕ)
operator_by b bs (Some rest) = with_rest (comparison_of b true) rest
operator_by b bs None = with_rest (comparison_of b false) bs

-- the operator that begins a text, and the text after the operator
abbrev pub operator_at : List ℕ → Option (Comparison × List ℕ)
operator_at [] = None
operator_at (b ∷ bs) = operator_by b bs (after_front (equals_sign ∷ []) bs)

-- ---- values

-- what can follow the dot of an extension: some bytes without a further dot and without a slash
abbrev pub is_after_dot : Option (List ℕ) → Bool
is_after_dot None = false
is_after_dot (Some []) = false
is_after_dot (Some (b ∷ bs)) = not (list_any (is_byte dot) (b ∷ bs)) && not (list_any (is_byte slash) (b ∷ bs))

-- a text can be a value of a column; `-` means no extension, an attribute that is unspecified, or no language
abbrev pub can_have : Column → List ℕ → Bool
can_have (Key Ext) text = bytes_eq text (codes "-") || is_after_dot (after_front (dot ∷ []) text)
can_have (Key Text) text =
    bytes_eq text (codes "set") || bytes_eq text (codes "unset") || bytes_eq text (codes "auto") || bytes_eq text (codes "other")
    || bytes_eq text (codes "-")
can_have (Key Eol) text =
    bytes_eq text (codes "none") || bytes_eq text (codes "lf") || bytes_eq text (codes "crlf") || bytes_eq text (codes "cr")
    || bytes_eq text (codes "mixed") || bytes_eq text (codes "nul")
can_have (Key (Attribute place)) text = true
can_have Change text =
    bytes_eq text (codes "added") || bytes_eq text (codes "changed") || bytes_eq text (codes "removed") || bytes_eq text (codes "same")
can_have other text = false

-- a column can have each of some values, which commas separate
abbrev pub can_have_all : Column → List ℕ → Bool
can_have_all column texts = list_all (can_have column) (pieces_of comma texts)

abbrev pub is_digit : ℕ → Bool
is_digit b = nat_le 48 b && nat_le b 57

-- the largest number of a condition
abbrev pub max_number : ℕ
max_number = 18446744073709551615

-- a number with one more digit, if the byte is a digit and the result is not over the largest number
abbrev pub with_digit : ℕ → ℕ → Option ℕ
with_digit n b = cond (is_digit b && nat_le (n * 10 + (b - 48)) max_number) (Some (n * 10 + (b - 48))) None

abbrev pub digits_from : Option ℕ → List ℕ → Option ℕ
digits_from None bs = None
digits_from (Some n) [] = Some n
digits_from (Some n) (b ∷ bs) = digits_from (with_digit n b) bs

-- the number that digits write, which is not over the largest
abbrev pub number_in : List ℕ → Option ℕ
number_in [] = None
number_in (b ∷ bs) = digits_from (Some 0) (b ∷ bs)

-- ---- conditions

-- the condition that a column has one of these values (`=`), or none of them (`!=`)
abbrev pub list_condition : Column → Comparison → List ℕ → Option ConditionModel
list_condition column Equal texts =
    cond (can_have_all column texts) (Some (record { column = column; test = one_of (pieces_of comma texts) })) None
list_condition column Unequal texts =
    cond (can_have_all column texts) (Some (record { column = column; test = none_of (pieces_of comma texts) })) None
list_condition column other texts = None

abbrev pub number_condition : Column → Comparison → Option ℕ → Option ConditionModel
number_condition column comparison None = None
number_condition column comparison (Some n) = Some (record { column = column; test = compared comparison n })

-- the condition of a column, an operator, and the text after the operator
abbrev pub condition_with : Column → Comparison → List ℕ → Option ConditionModel
condition_with (Number n) comparison values = number_condition (Number n) comparison (number_in values)
condition_with column comparison values = list_condition column comparison values

abbrev pub condition_by : Column → Option (Comparison × List ℕ) → Option ConditionModel
condition_by column None = None
condition_by column (Some operator) = condition_with column operator.0 (without_spaces operator.1)

abbrev pub condition_on : Option (Column × List ℕ) → Option ConditionModel
condition_on None = None
condition_on (Some column) = condition_by column.0 (operator_at (without_spaces column.1))

-- the condition that a text writes, if these columns are asked for; there may be spaces before and after the operator
abbrev pub condition_of : List (List ℕ) → List ℕ → Option ConditionModel
condition_of attributes text = condition_on (column_at attributes text)

abbrev pub is_change : Column → Bool
is_change Change = true
is_change other = false

abbrev pub unless_change : Option ConditionModel → Option ConditionModel
unless_change None = None
unless_change (Some c) = cond (is_change c.column) None (Some c)

-- the condition that a text writes, unless the condition is on `change`
abbrev pub file_condition_of : List (List ℕ) → List ℕ → Option ConditionModel
file_condition_of attributes text = unless_change (condition_of attributes text)

-- the conditions that texts write; a text that is no condition, or one on `change`, adds none
abbrev pub conditions_of : List (List ℕ) → List (List ℕ) → List ConditionModel
conditions_of attributes texts = filter_map (file_condition_of attributes) texts

-- the condition of files that are not binary
abbrev pub not_binary : ConditionModel
not_binary = record { column = Key Eol; test = none_of (codes "nul" ∷ []) }

-- the conditions that texts write, and, if `--no-binary` was typed, the condition that a file is not binary
abbrev pub all_conditions : List (List ℕ) → List (List ℕ) → Bool → List ConditionModel
all_conditions attributes texts asked = conditions_of attributes texts ++ cond asked (not_binary ∷ []) []

-- a text writes a condition
abbrev pub is_condition : List ℕ → Bool
is_condition text = is_some (condition_of [] text)

-- the greatest number of attributes that conditions may test
abbrev pub max_tested : ℕ
max_tested = 64

abbrev pub test_few : List (List ℕ) → Bool
test_few texts = nat_le (length (attributes_asked None texts)) max_tested

-- each text writes a condition, and they test few attributes
abbrev pub are_conditions : List (List ℕ) → Bool
are_conditions texts = list_all is_condition texts && test_few texts

-- ---- conditions on `change`

abbrev pub is_at_change : Option (Column × List ℕ) → Bool
is_at_change None = false
is_at_change (Some column) = is_change column.0

-- the column of a text is `change`
abbrev pub compares_sides : List ℕ → Bool
compares_sides text = is_at_change (column_at [] text)

-- these kinds of files without those that a condition does not allow
abbrev pub kinds_without : ChangeKinds → ConditionModel → ChangeKinds
kinds_without kinds c = record {
  added = kinds.added && meets c.test (word (codes "added"));
  changed = kinds.changed && meets c.test (word (codes "changed"));
  removed = kinds.removed && meets c.test (word (codes "removed"));
  same = kinds.same && meets c.test (word (codes "same"));
}

-- a condition on another column allows all
abbrev pub kinds_left : ChangeKinds → Option ConditionModel → ChangeKinds
kinds_left kinds None = kinds
kinds_left kinds (Some c) = cond (is_change c.column) (kinds_without kinds c) kinds

-- these kinds of files without those that some of the conditions that texts write do not allow
abbrev pub kinds_allowed : ChangeKinds → List (List ℕ) → ChangeKinds
kinds_allowed kinds [] = kinds
kinds_allowed kinds (text ∷ texts) = kinds_allowed (kinds_left kinds (condition_of [] text)) texts

-- the kinds of files that each of the conditions that texts write allows
abbrev pub changes_of : List (List ℕ) → ChangeKinds
changes_of texts = kinds_allowed (record { added = true; changed = true; removed = true; same = true }) texts
