-- The values of a sheet.
use Rattle.std.specs.Prelude.{ℕ, Bool, if◌then◌else◌, List, codes}
use Rattle.lc_sheet.specs.declared.value.Value.{Value}
use Rattle.lc_sheet.specs.declared.value.Value.TheVariants as value
use Rattle.lc_text.specs.Names.{NameModel, name_model}

-- the value of a line in a column: no value; a sum over all values of the column; a column that does not apply; a word; whether an
-- attribute is set; bytes with what is printed before and after them; a path; a number; a part of a whole, as a share or as a bar; an old
-- number and a new one, as a change or as the change in per cent of the old number
pub data ValueModel : Type 0 where
  missing : ValueModel
  summed : ValueModel
  blank : ValueModel
  word : List ℕ → ValueModel
  flag : Bool → ValueModel
  name : NameModel → ValueModel
  path : List ℕ → ValueModel
  number : ℕ → ValueModel
  share : ℕ → ℕ → ValueModel
  bar : ℕ → ℕ → ValueModel
  difference : ℕ → ℕ → ValueModel
  growth : ℕ → ℕ → ValueModel

abbrev pub value_model : Value → ValueModel
value_model value.Missing = missing
value_model value.Summed = summed
value_model value.Blank = blank
value_model (value.Word w) = word w.now
value_model (value.Flag b) = flag b
value_model (value.Name n) = name (name_model n)
value_model (value.Path p) = path p.now
value_model (value.Number n) = number n
value_model (value.Share part whole) = share part whole
value_model (value.Bar part whole) = bar part whole
value_model (value.Difference old new) = difference old new
value_model (value.Growth old new) = growth old new

-- the word for whether an attribute is set
abbrev pub flag_word : Bool → List ℕ
flag_word is_set = if is_set then codes "set" else codes "unset"
