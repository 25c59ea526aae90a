-- The lines of a sheet: the values that rows, sums, files, skipped entries and errors have in each column.
use Rattle.std.specs.Prelude.{ℕ, Bool, true, false, if◌then◌else◌, List, [], ◌∷◌, codes, Option, Some, None, slice_get, unwrap_or}
use Rattle.lc_census.specs.EolWords.{eol_word}
use Rattle.lc_level.specs.{FaultLines.FaultLineModel, FaultWords.fault_word, Level.{SkippedLineModel, FileLineModel, Reason as SkipReason}}
use Rattle.lc_level.specs.ReasonWords.{attribute_of, reason_word, rule_of}
use Rattle.lc_rules.specs.{Attributes.StateModel, TextWords.text_word}
use Rattle.lc_rules.specs.declared.{rule_source.RuleSource.RuleSource, states.TextState.TextState}
use Rattle.lc_sheet.specs.{Keys.{are_one_key, has_key}, Values.{ValueModel, missing, summed, blank, word, flag, name, path, number}}
use Rattle.lc_sheet.specs.{Values.{share, bar}, declared.{column.Column.Column, key.Key.Key}}
use Rattle.lc_sheet.specs.declared.form.{Form.Form, Shares.Shares}
use Rattle.lc_text.specs.RulePlaces.{source_directory, source_name}
use Rattle.lc_walk.specs.declared.tally.sums.Sums.{Sums}
use Rattle.lc_rows.specs.{RowKeys.{RowKey, ShownRowModel, row_key}, ShownFiles.file_number, ShownRows.{number_in, whole_key}}
use Rattle.lc_rows.specs.Words.{kind_word, skipped_end}
use Rattle.lc_sheet.specs.declared.column.Column.TheVariants as column
use Rattle.lc_sheet.specs.declared.key.Key.TheVariants as key
use Rattle.lc_rules.specs.Attributes as state

-- ---- values

-- a value that is printed as these bytes alone
abbrev pub bytes_value : List ℕ → ValueModel
bytes_value bytes = name (record { front = []; bytes = bytes; end = []; line = None })

-- an extension as a value: a dot and the bytes of the extension
abbrev pub extension_value : Option (List ℕ) → ValueModel
extension_value None = missing
extension_value (Some bytes) = name (record { front = codes "."; bytes = bytes; end = []; line = None })

-- the path of a directory as a value; the empty path of the top directory is a dot
abbrev pub directory_value : List ℕ → ValueModel
directory_value [] = name (record { front = codes "."; bytes = []; end = []; line = None })
directory_value (b ∷ bs) = bytes_value (b ∷ bs)

abbrev pub word_value : Option (List ℕ) → ValueModel
word_value None = missing
word_value (Some w) = word w

abbrev pub text_value : TextState → ValueModel
text_value state = word_value (text_word state)

-- the state of an attribute as a value
abbrev pub state_value : StateModel → ValueModel
state_value state.set = flag true
state_value state.unset = flag false
state_value (state.value bytes) = bytes_value bytes
state_value state.unspecified = missing

-- and the state at a place, if there is one
abbrev pub state_at : List StateModel → ℕ → StateModel
state_at states place = unwrap_or (slice_get states place) state.unspecified

-- the directory of files as a value; files without one are summed over directories
abbrev pub directory_in : Option (List ℕ) → ValueModel
directory_in None = summed
directory_in (Some p) = directory_value p

-- the value of files in the column of a key
abbrev pub key_value : Key → RowKey → ValueModel
key_value key.Dir k = directory_in k.directory
key_value (key.Attribute place) k = state_value (state_at k.key.attributes place)
key_value key.Ext k = extension_value k.key.tally.extension
key_value key.Text k = text_value k.key.tally.text
key_value key.Eol k = word (eol_word k.key.tally.eol)

-- the value in a column that rows are grouped by, or `summed` in a column that they are summed over
abbrev pub kept_value : Bool → ValueModel → ValueModel
kept_value kept value = if kept then value else summed

abbrev pub share_value : Option Shares → Sums → ValueModel
share_value None s = blank
share_value (Some q) s = share (number_in q.number s) q.total

abbrev pub bar_value : Option Shares → Sums → ValueModel
bar_value None s = blank
bar_value (Some q) s = bar (number_in q.number s) q.largest

-- ---- rows

abbrev pub row_value : Form → ShownRowModel → Column → ValueModel
row_value form r (column.Key k) = kept_value (has_key form.by k) (key_value k (row_key r))
row_value form r (column.Number n) = number (number_in n r.sums)
row_value form r column.Share = share_value form.shares r.sums
row_value form r column.Bar = bar_value form.shares r.sums
row_value form r other = blank

-- ---- sums

-- sums, and their name
pub record NamedSumsModel : Type 0 where
  pub name : List ℕ
  pub sums : Sums

-- the value of a line of sums in the column of a key: its name in the first of these columns, and `summed` in the others
abbrev pub named_in : Key → Key → List ℕ → ValueModel
named_in first k n = if are_one_key first k then word n else summed

abbrev pub sums_value : Form → NamedSumsModel → Column → ValueModel
sums_value form s (column.Key k) = named_in form.first k s.name
sums_value form s (column.Number n) = number (number_in n s.sums)
sums_value form s column.Share = share_value form.shares s.sums
sums_value form s other = blank

-- ---- files

abbrev pub file_value : Form → FileLineModel → Column → ValueModel
file_value form f (column.Key k) = key_value k (whole_key form.by.dir f)
file_value form f (column.Number n) = number (file_number n f)
file_value form f column.Path = path f.path
file_value form f other = blank

-- ---- skipped entries

-- the path of the file that has the rule that decides a path, and the number of a line
abbrev pub rule_name : List ℕ → RuleSource → Option ℕ → ValueModel
rule_name p source line =
    name (record { front = []; bytes = source_directory p source; end = source_name source; line = line })

-- the file and line of the rule, or the name of the attribute, that skips an entry
abbrev pub place_of : List ℕ → Option (RuleSource × ℕ) → Option (List ℕ) → ValueModel
place_of p (Some rule) attribute = rule_name p rule.0 (Some rule.1)
place_of p None (Some n) = bytes_value n
place_of p None None = missing

abbrev pub place_value : List ℕ → SkipReason → ValueModel
place_value p reason = place_of p (rule_of reason) (attribute_of reason)

-- the path of the rule's file, if a rule skips the entry
abbrev pub file_of_rule : List ℕ → Option (RuleSource × ℕ) → ValueModel
file_of_rule p None = blank
file_of_rule p (Some rule) = rule_name p rule.0 None

abbrev pub rule_file_value : List ℕ → SkipReason → ValueModel
rule_file_value p reason = file_of_rule p (rule_of reason)

-- the number of the rule's line, if a rule skips the entry
abbrev pub line_of_rule : Option (RuleSource × ℕ) → ValueModel
line_of_rule None = blank
line_of_rule (Some rule) = number rule.1

-- the name of the attribute, if an attribute skips the entry
abbrev pub name_of_attribute : Option (List ℕ) → ValueModel
name_of_attribute None = blank
name_of_attribute (Some n) = bytes_value n

abbrev pub skipped_value : Form → SkippedLineModel → Column → ValueModel
skipped_value form l column.Path = path l.path
skipped_value form l column.Kind = word (kind_word l.kind)
skipped_value form l column.Reason = word (reason_word l.reason)
skipped_value form l column.Place = place_value l.path l.reason
skipped_value form l column.Entry = name (record { front = []; bytes = l.path; end = skipped_end l.kind l.reason; line = None })
skipped_value form l column.File = rule_file_value l.path l.reason
skipped_value form l column.Line = line_of_rule (rule_of l.reason)
skipped_value form l column.Attribute = name_of_attribute (attribute_of l.reason)
skipped_value form l other = blank

-- ---- what could not be read

abbrev pub fault_value : Form → FaultLineModel → Column → ValueModel
fault_value form f column.Fault = word (fault_word f.word)
fault_value form f column.Site = path f.path
fault_value form f other = blank
