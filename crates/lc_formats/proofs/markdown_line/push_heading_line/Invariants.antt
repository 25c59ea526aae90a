use Rattle.std.proofs.Common.{◌≡◌, ◌++◌, flat_map, length, map}
use Rattle.lc_formats.specs.{Cells.heading_value, MarkdownCells.value_cell, declared.markdown_line.Weight.TheVariants.Plain}
use Rattle.lc_formats.proofs.markdown_line.push_heading_line.Given as goal

abbrev pub invariant-columns : goal.invariant-columns
invariant-columns l =
    l.text.items ++ flat_map (value_cell Plain) (map (heading_value l.attributes) l.rest)
    ≡ l.initial.text.items ++ flat_map (value_cell Plain) (map (heading_value l.attributes) l.columns)

abbrev pub decreases-columns : goal.decreases-columns
decreases-columns l = length l.rest
