use Rattle.std.proofs.Common.{[], List, ℕ, ap, ap₂, ◌∙◌}
use Rattle.lc_formats.specs.{Cells.{cells_of, heading_cells, section_cells}, Columns.{CellModel, cell_widths, wider}}
use Rattle.lc_formats.proofs.Widened.{rows_fitted}
use Rattle.lc_formats.proofs.table.summary_widths.Goals as goal

pub returns : goal.returns
returns g c =
    let rows = c.args.rows.now in
    let bar = c.args.bar in
    let headings = ap cells_of c.deref.ensures.value ∙ c.in_ok-set_headings.ensures
    ∙ ap₂ heading_cells c.attributes.ensures c.columns.ensures in
    rows_fitted c.fit.new.self c.fit_lines.new.widths c.fit_lines-2.new.widths c.fit_lines-3.new.widths
    (heading_cells rows.attributes rows.columns) (section_cells bar rows) (section_cells bar c.args.others.now)
    (section_cells bar c.args.totals.now)
    (c.in_ok-fit.ensures ∙ ap (λ (ws : List ℕ). wider ws (cell_widths (cells_of c.deref.result.now))) c.new-widths.ensures
    ∙ ap (λ (cs : List CellModel). wider [] (cell_widths cs)) headings)
    c.in_ok-fit_lines.ensures c.in_ok-fit_lines-2.ensures c.in_ok-fit_lines-3.ensures
