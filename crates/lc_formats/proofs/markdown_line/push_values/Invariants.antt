use Rattle.std.proofs.Common.{◌≡◌, ◌++◌, map, take, flat_map}
use Rattle.lc_sheet.specs.Values.{value_model}
use Rattle.lc_formats.specs.{MarkdownCells.value_cell, declared.markdown_line.Weight.TheVariants.Plain}
use Rattle.lc_formats.proofs.markdown_line.push_values.Given as goal

abbrev pub invariant-loop-value : goal.invariant-loop-value
invariant-loop-value l =
    l.text.items ≡ l.initial.text.items ++ flat_map (value_cell Plain) (map value_model (take l.value-index l.values))
