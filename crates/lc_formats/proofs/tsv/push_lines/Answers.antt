use Rattle.std.proofs.Common.{option_map}
use Rattle.lc_sheet.specs.Sheets.{line_of}
use Rattle.lc_formats.specs.Tsv.{values_line}
use Rattle.lc_formats.proofs.TsvLines.{lines_written}
use Rattle.lc_formats.proofs.tsv.push_lines.Goals as goal

pub returns : goal.returns
returns g c =
    lines_written (values_line (option_map (λ t. t.now) c.args.tag)) (line_of (g.L.Lines.value_in c.args.form) c.args.columns.now)
    c.args.lines.now c.loop-line.line-index
    c.args.text.now.items c.loop-line.text.items c.loop-line-test.false c.loop-line.invariant
