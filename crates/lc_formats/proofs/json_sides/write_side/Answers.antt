use Rattle.std.proofs.Common.{◌++◌, ap, ◌∙◌}
use Rattle.json.specs.{Json.Json, Tree.json_tokens}
use Rattle.lc_sheet.specs.Sheets.{line_of}
use Rattle.lc_formats.specs.JsonLines.{part_members}
use Rattle.lc_formats.proofs.{SideTokens.side_there, Tokens.object_appended}
use Rattle.lc_formats.proofs.json_sides.write_side.Goals as goal

pub returns : goal.returns
returns g c =
    let columns = c.args.columns.now in
    let values = line_of (g.L.Lines.value_in c.args.form) columns c.args.line.now in
    rw (c.in_ok-end_object.ensures, c.in_ok-write_part.ensures, c.in_ok-begin_object.ensures)
    (object_appended c.args.text.now (part_members c.args.attributes.now c.args.part columns values)
    ∙ ap (λ (j : Json). c.args.text.now ++ json_tokens j)
    (side_there c.lacks.result c.args.attributes.now c.args.part columns values c.lacks.ensures c.if-lacks.false))
