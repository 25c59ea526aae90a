use Rattle.lc_sheet.specs.Sheets.{line_of}
use Rattle.lc_formats.proofs.CsvLines.{records_written}
use Rattle.lc_formats.proofs.csv_sheet.push_lines.Goals as goal

pub returns : goal.returns
returns g c =
    records_written (line_of (g.L.Lines.value_in c.args.form) c.args.columns.now) c.args.lines.now c.loop-line.line-index c.args.text.now
    c.loop-line.text c.loop-line-test.false c.loop-line.invariant
