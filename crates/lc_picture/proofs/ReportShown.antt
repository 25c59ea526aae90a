-- What the page of a report shows of its rows.
use Rattle.std.proofs.{Common.{◌≡◌, ℕ, List, [], ◌∷◌, ◌++◌, Option, Some, None, refl, ap, ap₂, ◌∙◌}, lemmas.List.append-nil}
use Rattle.std.specs.List.{flat_map}
use Rattle.lc_rows.specs.{Kinds.{extension_value, row_value, sums_value}, RowKeys.ShownRowModel, SheetColumns.row_columns, Sheets.form_of}
use Rattle.lc_rows.specs.{Sheets.{others_lines, sheet_of}, Views.ViewModel}
use Rattle.lc_sheet.specs.{Sheets.{line_of, lines_of}, declared.{column.{Column.Column, Number.Number}, form.Form.Form}}
use Rattle.lc_walk.specs.declared.{report.Report.Report, tally.sums.Sums.Sums}
use Rattle.lc_picture.specs.Laws.{ReportLaw, cell_counts, row_counts, shown_of_boxes, shown_of_faults, shown_of_legend, shown_of_line}
use Rattle.lc_picture.specs.{Laws.{shown_of_others, shown_of_row, shown_of_title, shown_of_value}, Legend.visible_extension}
use Rattle.lc_picture.specs.{Page.{chart_options, scale_of}, Pieces.{Piece, name}}
use Rattle.lc_picture.proofs.Outlines.{shown_law}

extension_shows : (e : Option (List ℕ)) → shown_of_value (extension_value e) ≡ name (visible_extension e) ∷ []
extension_shows None = refl
extension_shows (Some bytes) = ap (λ (t : List ℕ). name t ∷ []) (append-nil _ ∙ append-nil _)

abbrev form_in : Number → Report → ViewModel → Form
form_in by r v = form_of (chart_options by) r.totals v.rows

abbrev columns_in : Number → List Column
columns_in by = row_columns (chart_options by)

row_shows : (by : Number) (r : Report) (v : ViewModel) (row : ShownRowModel)
    → shown_of_line (line_of (row_value (form_in by r v)) (columns_in by) row) ≡ shown_of_row (scale_of by r.totals) row
row_shows by r v row = ap (λ (ps : List Piece). ps ++ row_counts (scale_of by r.totals) row.sums) (extension_shows row.key.tally.extension)

rows_show : (by : Number) (r : Report) (v : ViewModel) (rows : List ShownRowModel)
    → flat_map shown_of_line (lines_of (row_value (form_in by r v)) (columns_in by) rows)
    ≡ flat_map (shown_of_row (scale_of by r.totals)) rows
rows_show by r v [] = refl
rows_show by r v (row ∷ rows) = ap₂ (λ (ps qs : List Piece). ps ++ qs) (row_shows by r v row) (rows_show by r v rows)

others_show : (by : Number) (r : Report) (v : ViewModel) (others : Option Sums)
    → flat_map shown_of_line (lines_of (sums_value (form_in by r v)) (columns_in by) (others_lines others))
    ≡ shown_of_others (scale_of by r.totals) others
others_show by r v None = refl
others_show by r v (Some s) = refl

pub report_law : ReportLaw
report_law named chosen by r v boxes =
    shown_law named chosen (scale_of by r.totals) r.faults.items v.rows (sheet_of (chart_options by) [] r v) boxes
    ∙ ap₂ (λ (ps qs : List Piece). (shown_of_title named chosen ++ cell_counts r.totals)
    ++ (shown_of_faults r.faults.items ++ ((shown_of_legend by v.rows ++ shown_of_boxes (scale_of by r.totals) boxes) ++ (ps ++ qs))))
    (rows_show by r v v.rows)
    (others_show by r v v.others)
