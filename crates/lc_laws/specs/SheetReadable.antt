-- The sheet of a report, as its texts show it: what is known of its columns and values.
use Rattle.std.specs.{Prelude.{◌≡◌, ℕ, List, [], false, unwrap_or, IfSome, ⊤}, List.All}
use Rattle.lc_level.specs.Level.{SkippedLineModel, Reason, named_git, by_rule, by_attribute, not_included, other_kind}
use Rattle.lc_rules.specs.Attributes.{StateModel, value}
use Rattle.lc_sheet.specs.{AttributeColumns.heading_of, Sheets.SheetModel}
use Rattle.lc_sheet.specs.declared.table_options.{Format.TheVariants.Table, Output.TheVariants.Text}
use Rattle.lc_sheet.specs.declared.table_options.TableOptions.{TableOptions}
use Rattle.lc_walk.specs.declared.report.Report.{Report}
use Rattle.lc_rows.specs.{RowKeys.ShownRowModel, Sheets.sheet_of, Views.ViewModel}
use Rattle.lc_formats.specs.{Blanks.ends_in_blank, Csv.csv_section, CsvLaws.HasColumns, Readable.{AreBytes, AreNames, IsListed, IsTabular}}
use Rattle.lc_text.specs.Visible.{visible_bytes}

abbrev pub HasByteName : Reason → Type 0
HasByteName named_git = ⊤
HasByteName (by_rule source line) = ⊤
HasByteName (by_attribute name) = AreBytes name
HasByteName not_included = ⊤
HasByteName (other_kind what) = ⊤

abbrev pub HasByteValue : StateModel → Type 0
HasByteValue (value bytes) = AreBytes bytes
HasByteValue other = ⊤

-- the names of a row, and the values of its attributes, consist of bytes; so do the names of a skipped entry
pub record HasByteNames (row : ShownRowModel) : Type 0 where
  pub directory : AreBytes (unwrap_or row.directory [])
  pub attributes : All HasByteValue row.key.attributes
  pub extension : IfSome row.key.tally.extension AreBytes

abbrev pub HasSkippedBytes : SkippedLineModel → Type 0
HasSkippedBytes l = AreBytes l.path × HasByteName l.reason

-- the headings of columns of attributes consist of bytes, and none ends in a blank
pub record HaveHeadings (attributes : List (List ℕ)) : Type 0 where
  pub names : AreNames attributes
  pub bare : All (λ n. ends_in_blank (visible_bytes (heading_of n)) ≡ false) attributes

-- a sheet has rows and sums in the same columns, and lists whose last column ends its line
pub record IsReadableSheet (s : SheetModel) : Type 0 where
  pub tabular : IsTabular s
  pub files_listed : IfSome s.files IsListed
  pub skipped_listed : IfSome s.skipped IsListed
  pub faults_listed : IfSome s.faults IsListed

-- the sheet of each report for the format Table is readable if names are bytes, so the laws of the widths of a text in columns hold of it
abbrev pub ReadableSheetLaw : Type 0
ReadableSheetLaw =
    (options : TableOptions) (attributes : List (List ℕ)) (r : Report) (v : ViewModel) → options.output ≡ Text Table
    → HaveHeadings attributes → All HasByteNames v.rows → All HasSkippedBytes r.skipped.items
    → IsReadableSheet (sheet_of options attributes r v)

-- the part of a report's sheet that a text as CSV shows has columns, and a value in each: so a reader gets its records back
abbrev pub SheetRecordsLaw : Type 0
SheetRecordsLaw =
    (options : TableOptions) (attributes : List (List ℕ)) (r : Report) (v : ViewModel)
    → HasColumns (csv_section (sheet_of options attributes r v))
