use Rattle.lc_sheet.specs.Sheets.{line_of}
use Rattle.lc_formats.specs.JsonLines.{line_members}
use Rattle.lc_formats.proofs.Tokens.{object_appended}
use Rattle.lc_formats.proofs.json_lists.write_line.Goals as goal

pub returns : goal.returns
returns g c =
    let columns = c.args.columns.now in
    rw (c.if-compares.false, c.in_ok-end_object.ensures, c.in_ok-write_columns.ensures, c.in_ok-begin_object.ensures)
    (object_appended c.args.text.now
    (line_members c.args.attributes.now columns (line_of (g.L.Lines.value_in c.args.form) columns c.args.line.now)))
