use Rattle.std.proofs.Common.{◌≡◌, ◌++◌, option_map, take}
use Rattle.std.specs.List.{flat_map}
use Rattle.lc_sheet.specs.Sheets.{line_of}
use Rattle.lc_formats.specs.Tsv.{values_line}
use Rattle.lc_formats.proofs.tsv.push_lines.Given as goal

abbrev pub invariant-loop-line : goal.invariant-loop-line
invariant-loop-line g l =
    l.text.items
    ≡ l.initial.text.items
    ++ flat_map (λ line. values_line (option_map (λ t. t.now) l.tag) (line_of (g.L.Lines.value_in l.form) l.columns line))
    (take l.line-index l.lines)
