use Rattle.std.proofs.Common.{◌≡◌, ◌-◌, length}
use Rattle.lc_formats.specs.Columns.{line_width}
use Rattle.lc_formats.proofs.widths.room_after.Given as goal

abbrev pub invariant-widths : goal.invariant-widths
invariant-widths l = l.room - line_width l.rest ≡ 78 - line_width l.widths

abbrev pub decreases-widths : goal.decreases-widths
decreases-widths l = length l.rest
