-- Conditions on files: a column, and a test of a file's value in the column.
use Rattle.std.specs.{Prelude.{ℕ, Bool, true, false, not, nat_le, nat_eq, List, ◌++◌, codes}, List.list_any, Str.bytes_eq}
use Rattle.lc_glob.specs.Pieces.{pieces_of}
use Rattle.lc_sheet.specs.{Values.{ValueModel, missing, word, flag, flag_word, name, number}, declared.column.Column.Column}
use Rattle.lc_sheet.specs.declared.condition.Comparison.{Comparison, TheVariants.{Less, AtMost, Equal, Unequal, AtLeast, Greater}}
use Rattle.lc_sheet.specs.declared.condition.Test.{Test, TheVariants.{OneOf, NoneOf, Compared}}
use Rattle.lc_sheet.specs.declared.column.Column.TheVariants as column
use Rattle.lc_sheet.specs.declared.key.Key.TheVariants as key

-- a test of a value: the value is one of these texts, or none of these texts, or its comparison with a number is true
pub data TestModel : Type 0 where
  one_of : List (List ℕ) → TestModel
  none_of : List (List ℕ) → TestModel
  compared : Comparison → ℕ → TestModel

pub record ConditionModel : Type 0 where
  pub column : Column
  pub test : TestModel

-- the byte that separates the texts of a test
abbrev pub comma : ℕ
comma = 44

abbrev pub test_model : Test → TestModel
test_model (OneOf texts) = one_of (pieces_of comma texts.now)
test_model (NoneOf texts) = none_of (pieces_of comma texts.now)
test_model (Compared comparison n) = compared comparison n

abbrev pub compares : Comparison → ℕ → ℕ → Bool
compares Less n m = not (nat_le m n)
compares AtMost n m = nat_le n m
compares Equal n m = nat_eq n m
compares Unequal n m = not (nat_eq n m)
compares AtLeast n m = nat_le m n
compares Greater n m = not (nat_le n m)

-- whether a text names a value on a command line: a hyphen names a missing value, a word itself, `set` and `unset` whether an attribute
-- is set, an extension with its dot the extension, and other bytes themselves
abbrev pub has_text : ValueModel → List ℕ → Bool
has_text missing text = bytes_eq text (codes "-")
has_text (word w) text = bytes_eq text w
has_text (flag is_set) text = bytes_eq text (flag_word is_set)
has_text (name n) text = bytes_eq text (n.front ++ n.bytes)
has_text other text = false

abbrev pub number_of : ValueModel → ℕ
number_of (number n) = n
number_of other = 0

-- whether a value passes a test
abbrev pub meets : TestModel → ValueModel → Bool
meets (one_of texts) value = list_any (has_text value) texts
meets (none_of texts) value = not (list_any (has_text value) texts)
meets (compared comparison m) value = compares comparison (number_of value) m

-- whether files alone have values in a column: numbers, of which rows have sums, and the states of attributes, which a report's rows lack
abbrev pub is_of_files : Column → Bool
is_of_files (column.Number n) = true
is_of_files (column.Key (key.Attribute place)) = true
is_of_files other = false

-- whether a condition is on such a column
abbrev pub is_on_files : ConditionModel → Bool
is_on_files c = is_of_files c.column

abbrev pub needs_files : List ConditionModel → Bool
needs_files cs = list_any is_on_files cs
