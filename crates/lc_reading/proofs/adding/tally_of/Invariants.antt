use Rattle.std.proofs.Common.{◌≡◌, ◌++◌, List, length, map}
use Rattle.lc_walk.specs.{ReportTotals.counted_line, Tally.{CountedFile, StandsFor}}
use Rattle.lc_reading.proofs.adding.tally_of.Given as goal

abbrev pub invariant-files : goal.invariant-files
invariant-files l = (done : List CountedFile) × StandsFor l.tally done × (done ++ map counted_line l.rest ≡ map counted_line l.files)

abbrev pub decreases-files : goal.decreases-files
decreases-files l = length l.rest
