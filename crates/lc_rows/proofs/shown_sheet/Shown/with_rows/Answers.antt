use Rattle.std.proofs.Common.{List, ap, ◌∙◌}
use Rattle.lc_rows.specs.{RowKeys.ShownRowModel, SheetColumns.file_columns, Sheets.{form_of, listed_files, others_lines}}
use Rattle.lc_rows.specs.Views.{first_of, rest_of, sums_of_some, view_of}
use Rattle.lc_rows.proofs.SheetMade.{made}
use Rattle.lc_rows.proofs.shown_sheet.Shown.with_rows.Goals as goal

pub returns : goal.returns
returns c =
    let options = c.args.options.now in
    let report = c.args.report.now in
    let rows = c.args.rows.items in
    let listed = c.listed_files.ensures ∙ ap (listed_files options.files) c.deref.ensures.value in
    let is_form = c.form_of.ensures ∙ ap (form_of options report.totals) c.deref-3.ensures.value in
    let others = c.in_ok-others.ensures.sums ∙ ap sums_of_some (c.split_at_top-2.ensures.rest
    ∙ ap (λ (rs : List ShownRowModel). rest_of options.top rs) c.deref-2.ensures.value) in
    let format = c.sheet_format-format.ensures in
    rw format (made options c.args.attributes.now report (view_of options.top rows (listed_files options.files report.files.items))
    c.form_of.result
    c.in_ok-row_columns.field-0.items c.in_ok-file_columns.field-0.items c.cut.new.rows.items c.in_ok-others_lines.field-0.items
    c.in_ok-totals_lines.field-0.items c.split_at_top.result.0.now is_form c.in_ok-row_columns.ensures
    (c.in_ok-file_columns.ensures ∙ ap (λ f. file_columns f options.by) format) c.cut.ensures
    (c.in_ok-others_lines.ensures ∙ ap others_lines others) c.in_ok-totals_lines.ensures
    (c.split_at_top.ensures.first ∙ ap (first_of options.top) listed))
