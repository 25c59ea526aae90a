-- A sheet that is made of parts.
use Rattle.std.proofs.Common.{◌≡◌, ℕ, List, nat_lt, refl}
use Rattle.lc_sheet.specs.{Sheets.sheet_format, declared.{column.Column.Column, form.Form.Form, table_options.TableOptions.TableOptions}}
use Rattle.lc_walk.specs.declared.report.Report.{Report}
use Rattle.lc_rows.specs.{Kinds.NamedSumsModel, RowKeys.ShownRowModel, SheetColumns.{file_columns, row_columns}, Sheets.form_of}
use Rattle.lc_rows.specs.{Sheets.{others_lines, sheet_of, sheet_with, totals_lines}, Views.ViewModel}
use Rattle.lc_level.specs.Level.{FileLineModel}

-- where each part is that of a view, the sheet is that of the view
pub made : (options : TableOptions) (attributes : List (List ℕ)) (r : Report) (v : ViewModel) (form : Form)
    (columns of_files : List Column) (rows : List ShownRowModel) (others totals : List NamedSumsModel) (files : List FileLineModel)
    → form ≡ form_of options r.totals rows → columns ≡ row_columns options
    → of_files ≡ file_columns (sheet_format options.output) options.by
    → rows ≡ v.rows → others ≡ others_lines v.others → totals ≡ totals_lines r.totals r.classes → files ≡ v.files
    → sheet_with (record {
      format = sheet_format options.output;
      form = form;
      attributes = attributes;
      columns = columns;
      file_columns = of_files;
      rows = rows;
      others = others;
      totals = totals;
      some_binary = nat_lt 0 r.classes.binary.files;
      lists_files = options.files;
      files = files;
    }) r
    ≡ sheet_of options attributes r v
made options attributes r v form columns of_files rows others totals files is_form are_columns file_columns_are are_rows are_others
    are_totals
    are_files =
    rw (is_form, are_columns, file_columns_are, are_rows, are_others, are_totals, are_files) refl
