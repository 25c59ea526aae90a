use Rattle.std.proofs.Common.{map, take}
use Rattle.lc_walk.specs.{Tally.StandsFor, ReportTotals.counted_line}
use Rattle.lc_rows.proofs.kept.tally_of.Given as goal

abbrev pub invariant-loop-file : goal.invariant-loop-file
invariant-loop-file l = StandsFor l.tally (map counted_line (take l.file-index l.files))
