use Rattle.std.proofs.Common.{◌≡◌, ◌++◌, flat_map, length}
use Rattle.lc_sheet.specs.ColumnWords.{side_of}
use Rattle.lc_formats.specs.MarkdownCells.{rule_cell}
use Rattle.lc_formats.proofs.markdown_line.push_rule.Given as goal

abbrev pub invariant-columns : goal.invariant-columns
invariant-columns l =
    l.text.items ++ flat_map (λ c. rule_cell (side_of c)) l.rest
    ≡ l.initial.text.items ++ flat_map (λ c. rule_cell (side_of c)) l.columns

abbrev pub decreases-columns : goal.decreases-columns
decreases-columns l = length l.rest
