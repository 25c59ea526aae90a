use Rattle.std.proofs.Common.{◌≡◌, ◌++◌, length, map}
use Rattle.lc_formats.specs.{Columns.lines_in, TreeText.tree_cells}
use Rattle.lc_formats.proofs.tree_lines.push_lines.Given as goal

abbrev pub invariant-lines : goal.invariant-lines
invariant-lines l =
    l.text.items ++ lines_in l.widths (map (tree_cells l.whole) l.rest)
    ≡ l.initial.text.items ++ lines_in l.widths (map (tree_cells l.whole) l.lines)

abbrev pub decreases-lines : goal.decreases-lines
decreases-lines l = length l.rest
