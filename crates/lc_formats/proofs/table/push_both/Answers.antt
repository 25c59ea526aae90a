use Rattle.std.proofs.Common.{List, ℕ, ap, ◌∙◌, string_bytes}
use Rattle.lc_formats.specs.{Cells.cells_of, Columns.{cell_widths, wider}}
use Rattle.lc_formats.proofs.Widened.{two_lines}
use Rattle.lc_formats.proofs.table.push_both.Goals as goal

pub returns : goal.returns
returns c =
    let first = cells_of c.args.directories.now in
    two_lines (string_bytes c.args.text.now) (string_bytes c.push_line.new.text) (string_bytes c.push_line-2.new.text) c.fit.new.self
    c.fit-2.new.self first (cells_of c.args.entries.now)
    (c.in_ok-fit.ensures ∙ ap (λ (ws : List ℕ). wider ws (cell_widths first)) c.new-widths.ensures)
    c.in_ok-fit-2.ensures c.in_ok-push_line.ensures c.in_ok-push_line-2.ensures
