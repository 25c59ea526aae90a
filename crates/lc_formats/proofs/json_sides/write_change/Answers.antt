use Rattle.std.proofs.Common.{codes}
use Rattle.lc_sheet.specs.Sheets.{line_of}
use Rattle.lc_formats.specs.{JsonLines.{part_members, side_value}, declared.json_sides.Part.TheVariants.{Own, Old, New}}
use Rattle.lc_formats.proofs.SideTokens.{change_appended}
use Rattle.lc_formats.proofs.json_sides.write_change.Goals as goal

pub returns : goal.returns
returns g c =
    let columns = c.args.columns.now in
    let names = c.args.attributes.now in
    let values = line_of (g.L.Lines.value_in c.args.form) columns c.args.line.now in
    rw (
      c.in_ok-end_object.ensures,
      c.in_ok-write_side-2.ensures,
      c.in_ok-key-2.ensures,
      c.in_ok-write_side.ensures,
      c.in_ok-key.ensures,
      c.in_ok-write_part.ensures,
      c.in_ok-begin_object.ensures,
    )
    (change_appended c.args.text.now (part_members names Own columns values) (codes "old") (codes "new")
    (side_value names Old columns values) (side_value names New columns values))
