use Rattle.std.proofs.Common.{◌++◌}
use Rattle.lc_sheet.specs.Sheets.{line_of}
use Rattle.lc_formats.specs.{JsonLines.part_members, JsonTokens.members_tokens_of}
use Rattle.lc_formats.proofs.SideTokens.{part_step}
use Rattle.lc_formats.proofs.json_sides.write_part.Goals as goal

pub columns-preserved : goal.columns-preserved
columns-preserved g c =
    let columns = c.args.columns.now in
    let value = g.L.Lines.value_in c.args.form in
    part_step c.columns.text c.write_member.new.text
    (c.args.text.now ++ members_tokens_of (part_members c.args.attributes.now c.args.part columns (line_of value columns c.args.line.now)))
    c.args.attributes.now c.args.part c.in-Some.column.now c.in-Some.others.now c.columns.rest.now (value c.args.line.now)
    c.in-Some.ensures.cases.0 c.columns.invariant
    c.in_ok-write_member.ensures
