use Rattle.std.proofs.Common.{◌≡◌, ◌++◌, length}
use Rattle.lc_sheet.specs.Sheets.{line_of}
use Rattle.lc_formats.specs.{JsonLines.part_members, JsonTokens.members_tokens_of}
use Rattle.lc_formats.proofs.json_sides.write_part.Given as goal

abbrev pub invariant-columns : goal.invariant-columns
invariant-columns g l =
    l.text ++ members_tokens_of (part_members l.attributes l.part l.rest (line_of (g.L.Lines.value_in l.form) l.rest l.line))
    ≡ l.initial.text
    ++ members_tokens_of (part_members l.attributes l.part l.columns (line_of (g.L.Lines.value_in l.form) l.columns l.line))

abbrev pub decreases-columns : goal.decreases-columns
decreases-columns g l = length l.rest
