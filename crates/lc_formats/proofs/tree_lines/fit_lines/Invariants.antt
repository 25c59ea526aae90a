use Rattle.std.proofs.Common.{◌≡◌, length, map}
use Rattle.lc_formats.specs.{Columns.widened, TreeText.tree_cells}
use Rattle.lc_formats.proofs.tree_lines.fit_lines.Given as goal

abbrev pub invariant-lines : goal.invariant-lines
invariant-lines l = widened l.widths (map (tree_cells l.whole) l.rest) ≡ widened l.initial.widths (map (tree_cells l.whole) l.lines)

abbrev pub decreases-lines : goal.decreases-lines
decreases-lines l = length l.rest
