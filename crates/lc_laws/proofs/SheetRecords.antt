-- What a text as CSV shows of a report has columns, and a value in each.
use Rattle.std.proofs.{lemmas.{Grind.common_steps, List.{length-map, Elements.All-map}}, Common.{◌≡◌, ℕ, ◌<◌, Bool, true, false}}
use Rattle.std.proofs.Common.{if◌then◌else◌, List, [], length, codes, Option, Some, None, arith, length-append, unwrap_or}
use Rattle.std.specs.List.{slice_index_or}
use Rattle.lc_sheet.specs.{Sheets.{line_of, sheet_format}, Values.ValueModel, declared.column.Column.Column}
use Rattle.lc_sheet.specs.declared.table_options.{Columns.Columns, Format.Format, TableOptions.TableOptions}
use Rattle.lc_walk.specs.declared.report.Report.{Report}
use Rattle.lc_rows.specs.{Kinds.{file_value, row_value, skipped_value}, SheetColumns.{file_columns, row_columns, skipped_columns}}
use Rattle.lc_rows.specs.{Sheets.{form_of, list_of, section_of, with_attributes, sheet_of}, Views.ViewModel}
use Rattle.lc_formats.specs.CsvLaws.{HasColumns}
use Rattle.lc_laws.specs.SheetReadable.{SheetRecordsLaw}

-- lines in columns have a value in each
made_with : {X : Type 0} (tag : Option (List ℕ)) (attributes : List (List ℕ)) (value : X → Column
    → ValueModel) (columns : List Column) (lines : List X)
    → 0 < length columns → HasColumns (record (section_of value columns lines) { tag = tag; attributes = attributes })
made_with tag attributes value columns lines some = record {
  some = some;
  each = All-map (λ (values : List ValueModel). length values ≡ length columns) (line_of value columns) lines
      (λ k d within. length-map columns (value (slice_index_or lines k d)));
}

row_columns_some : (options : TableOptions) → 0 < length (row_columns options)
row_columns_some options = grind (arith, common_steps, length-append)

skipped_columns_some : (format : Format) → 0 < length (skipped_columns format)
skipped_columns_some format = grind (arith, common_steps)

file_columns_some : (format : Format) (by : Columns) → 0 < length (file_columns format by)
file_columns_some format by = grind (arith, common_steps)

module _ (options : TableOptions) (attributes : List (List ℕ)) (r : Report) (v : ViewModel) where
  at : (files left_out : Bool)
      → HasColumns (unwrap_or
      (if files then Some (list_of (codes "file") (with_attributes attributes (section_of (file_value (form_of options r.totals v.rows))
      (file_columns (sheet_format options.output) options.by) v.files))) else None)
      (unwrap_or (if left_out then Some (list_of (codes "left") (section_of (skipped_value (form_of options r.totals v.rows))
      (skipped_columns (sheet_format options.output)) r.skipped.items)) else None) (sheet_of options attributes r v).rows))
  at true left_out =
      made_with (Some (codes "file")) attributes (file_value (form_of options r.totals v.rows))
      (file_columns (sheet_format options.output) options.by) v.files
      (file_columns_some (sheet_format options.output) options.by)
  at false true =
      made_with (Some (codes "left")) [] (skipped_value (form_of options r.totals v.rows))
      (skipped_columns (sheet_format options.output)) r.skipped.items
      (skipped_columns_some (sheet_format options.output))
  at false false =
      made_with None attributes (row_value (form_of options r.totals v.rows)) (row_columns options) v.rows (row_columns_some options)

pub sheet_columns : SheetRecordsLaw
sheet_columns options attributes r v = at options attributes r v options.files r.lists.left_out
