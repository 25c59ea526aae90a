use Rattle.std.proofs.Common.{◌++◌, List, map, take}
use Rattle.lc_walk.specs.{Tally.{CountedFile, StandsFor}, FoundReports.tallied}
use Rattle.lc_walk.proofs.worker.adding.add_files.Given as goal

abbrev pub invariant-loop-file : goal.invariant-loop-file
invariant-loop-file l =
    (fs : List CountedFile) → StandsFor l.fn.tally fs → StandsFor l.tally (fs ++ map tallied (take l.file-index l.files))
