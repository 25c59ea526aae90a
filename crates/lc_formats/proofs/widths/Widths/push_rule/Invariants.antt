use Rattle.std.proofs.Common.{◌≡◌, ◌++◌, length, replicate, string_bytes}
use Rattle.lc_formats.specs.{BarCells.ruled, Columns.line_width}
use Rattle.lc_formats.proofs.widths.Widths.push_rule.Given as goal

abbrev pub invariant-widths : goal.invariant-widths
invariant-widths l =
    string_bytes l.text ++ replicate (line_width l.widths) 45
    ≡ string_bytes l.initial.text ++ replicate (line_width (ruled l.bar l.self)) 45

abbrev pub decreases-widths : goal.decreases-widths
decreases-widths l = length l.widths
