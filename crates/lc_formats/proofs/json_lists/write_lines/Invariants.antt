use Rattle.std.proofs.Common.{◌≡◌, ◌++◌, take}
use Rattle.std.specs.List.{flat_map}
use Rattle.json.specs.Tree.{json_tokens}
use Rattle.lc_sheet.specs.Sheets.{line_of}
use Rattle.lc_formats.specs.JsonLines.{object_of}
use Rattle.lc_formats.proofs.json_lists.write_lines.Given as goal

abbrev pub invariant-loop-line : goal.invariant-loop-line
invariant-loop-line g l =
    l.text
    ≡ l.initial.text
    ++ flat_map (λ x. json_tokens (object_of l.compares l.attributes l.columns (line_of (g.L.Lines.value_in l.form) l.columns x)))
    (take l.line-index l.lines)
