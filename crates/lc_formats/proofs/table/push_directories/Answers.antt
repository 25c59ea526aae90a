use Rattle.std.proofs.Common.{◌++◌, List, ℕ, ap, ◌∙◌, string_bytes}
use Rattle.lc_formats.specs.{Cells.cells_of, Columns.{cell_widths, wider}}
use Rattle.lc_formats.proofs.Widened.{line_alone}
use Rattle.lc_formats.proofs.table.push_directories.Goals as goal

pub returns : goal.returns
returns c =
    let line = cells_of c.args.directories.now in
    c.in_ok-push_line.ensures ∙ ap (λ (t : List ℕ). string_bytes c.args.text.now ++ t)
    (line_alone c.fit.new.self line
    (c.in_ok-fit.ensures ∙ ap (λ (ws : List ℕ). wider ws (cell_widths line)) c.new-widths.ensures))
