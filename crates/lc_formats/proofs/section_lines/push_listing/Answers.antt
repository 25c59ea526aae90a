use Rattle.std.proofs.Common.{List, ℕ, [], ◌++◌, ap, ap₂, sym, ◌∙◌, string_bytes}
use Rattle.lc_formats.specs.Cells.{cells_of, heading_cells, line_cells, section_cells}
use Rattle.lc_formats.specs.{Columns.{CellModel, cell_widths, line_in, wider}, Shares.full_bar}
use Rattle.lc_formats.proofs.Widened.{listed_some, some_listed}
use Rattle.lc_formats.proofs.section_lines.push_listing.Goals as goal

pub returns : goal.returns
returns g c =
    let initial = string_bytes c.args.text.now in
    let section = c.args.section.now in
    let headings = heading_cells section.attributes section.columns in
    let first = ap cells_of c.deref.ensures.value ∙ c.in_ok-set_headings.ensures
    ∙ ap₂ heading_cells c.attributes.ensures c.columns.ensures in
    let second = ap cells_of c.deref-2.ensures.value ∙ c.in_ok-set_headings-2.ensures
    ∙ ap₂ heading_cells c.attributes-2.ensures c.columns-2.ensures in
    some_listed initial (string_bytes c.push_line.new.text) (string_bytes c.push_lines.new.text) (string_bytes c.push_str.new.self)
    [] c.fit.new.self c.fit_lines.new.widths headings (section_cells full_bar section)
    (c.in_ok-fit.ensures ∙ ap (λ (ws : List ℕ). wider ws (cell_widths (cells_of c.deref.result.now))) c.new-widths.ensures
    ∙ ap (λ (cs : List CellModel). wider [] (cell_widths cs)) first)
    c.in_ok-fit_lines.ensures
    (c.in_ok-push_line.ensures ∙ ap (λ (cs : List CellModel). initial ++ line_in c.fit_lines.new.widths cs) second)
    c.in_ok-push_lines.ensures c.in_ok-push_str.ensures.bytes
    ∙ ap (λ (t : List ℕ). initial ++ t)
    (sym (listed_some headings (line_cells full_bar section.columns) section.lines (sym c.is_empty.ensures ∙ c.if-is_empty.false)))
