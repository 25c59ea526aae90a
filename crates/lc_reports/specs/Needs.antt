-- What a sum needs of each report, and what reports have.
use Rattle.std.specs.Prelude.{Bool, true, false, not, ◌&&◌, ◌||◌, List, Option, Some, None, is_some, unwrap_or}
use Rattle.std.specs.List.{find, list_all, list_any}
use Rattle.lc_sheet.specs.{Conditions.{ConditionModel, needs_files}, Keys.{are_of_files, are_one_key, columns_of, has_key, report_keys}}
use Rattle.lc_sheet.specs.declared.{column.Column.Column, key.Key.{Key, TheVariants.Eol}, table_options.Columns.Columns}
use Rattle.lc_reports.specs.declared.{needs.Needs.Needs, part.Part.Part}
use Rattle.lc_sheet.specs.declared.column.Column.TheVariants as column

-- ---- what is needed

abbrev pub is_key : Key → Column → Bool
is_key k (column.Key c) = are_one_key c k
is_key k other = false

abbrev pub is_on : Key → ConditionModel → Bool
is_on k c = is_key k c.column

-- whether a condition is on a key of reports' rows
abbrev pub is_on_key : ConditionModel → Bool
is_on_key c = list_any (λ k. is_on k c) report_keys

-- whether conditions need a key: if a condition is on it; and `eol`, which shows what is binary, if a condition is on any key
abbrev pub tests_key : List ConditionModel → Key → Bool
tests_key cs Eol = list_any is_on_key cs
tests_key cs k = list_any (is_on k) cs

-- the columns that rows are grouped by, if columns are named
abbrev pub named_columns : Option Columns → Columns
named_columns by = unwrap_or by (record { dir = None; attributes = 0; ext = false; text = false; eol = false })

-- whether rows are sums over files
abbrev pub sums_files : Option Columns → Bool
sums_files None = false
sums_files (Some by) = are_of_files by

-- what a sum needs of each report: for rows by these columns, or by any shared column; for these conditions; and for these lists
abbrev pub needs_of : Option Columns → List ConditionModel → Bool → Bool → Needs
needs_of by cs files left_out = record {
  columns = columns_of (λ k. has_key (named_columns by) k || tests_key cs k);
  some_column = not (is_some by);
  files = files || sums_files by || needs_files cs;
  left_out = left_out;
}

-- ---- what reports have

-- whether a needed key is not among those that are there
abbrev pub is_lacking : Columns → Columns → Key → Bool
is_lacking needed there k = has_key needed k && not (has_key there k)

abbrev pub lacks_column : Columns → Part → Bool
lacks_column needed p = list_any (is_lacking needed p.report.columns) report_keys

-- the first needed key that is not there, if one is not there
abbrev pub lacking : Columns → Part → Key
lacking needed p = unwrap_or (find (is_lacking needed p.report.columns) report_keys) Eol

abbrev pub lacks_files : Part → Bool
lacks_files p = not p.report.lists.files

abbrev pub lacks_skipped : Part → Bool
lacks_skipped p = not p.report.lists.left_out

-- whether all of the reports have a key; whether there is such a key is below
abbrev pub share_key : List Part → Key → Bool
share_key ps k = list_all (λ (p : Part). has_key p.report.columns k) ps

abbrev pub share_some : List Part → Bool
share_some ps = list_any (share_key ps) report_keys
