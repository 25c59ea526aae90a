use Rattle.std.proofs.Common.{◌++◌, ap, ap₂, ◌∙◌, ℕ, List, string_bytes}
use Rattle.lc_formats.specs.{BarCells.ruled, Cells.{cells_of, heading_cells, section_cells}, Columns.{CellModel, line_in, rule_in}}
use Rattle.lc_formats.specs.TableText.{row_lines, rows_in_columns, summary_with}
use Rattle.lc_formats.proofs.Widened.{rows_written}
use Rattle.lc_formats.proofs.table.push_summary.Goals as goal

pub returns : goal.returns
returns g c =
    let initial = string_bytes c.args.text.now in
    let rows = c.args.rows.now in
    let bar = c.in_ok-bar.bar in
    let ws = c.in_ok-bar.widths in
    let headings = ap cells_of c.deref.ensures.value ∙ c.in_ok-set_headings.ensures
    ∙ ap₂ heading_cells c.attributes.ensures c.columns.ensures in
    rows_written initial (string_bytes c.push_line.new.text) (string_bytes c.push_rule.new.text) (string_bytes c.push_lines.new.text)
    (string_bytes c.push_lines-2.new.text) (string_bytes c.push_rule-2.new.text) (string_bytes c.push_lines-3.new.text) ws
    (rule_in (ruled bar ws)) (heading_cells rows.attributes rows.columns) (section_cells bar rows) (section_cells bar c.args.others.now)
    (section_cells bar c.args.totals.now)
    (c.in_ok-push_line.ensures ∙ ap (λ (cs : List CellModel). initial ++ line_in ws cs) headings)
    c.in_ok-push_rule.ensures c.in_ok-push_lines.ensures c.in_ok-push_lines-2.ensures c.in_ok-push_rule-2.ensures
    c.in_ok-push_lines-3.ensures
    ∙ ap (λ (v : List ℕ). initial ++ rows_in_columns v (rule_in (ruled bar v)) (heading_cells rows.attributes rows.columns)
    (row_lines bar rows c.args.others.now) (section_cells bar c.args.totals.now)) c.in_ok-bar.ensures.widths
    ∙ ap (λ (k : ℕ). initial ++ summary_with k rows c.args.others.now c.args.totals.now) c.in_ok-bar.ensures.bar
