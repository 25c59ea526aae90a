-- The parts that a row adds up, as the code stores them.
use Rattle.lc_rows.specs.declared.parts.Source.{Source, TheVariants.{File, Row, Shown}}
use Rattle.lc_walk.specs.{Sums.one_file, declared.tally.sums.Sums.Sums}

-- the sums over a file, over the files of a report's row, or over those of a table's row
abbrev pub sums_of_source : Source → Sums
sums_of_source (File file) = one_file file.now.count
sums_of_source (Row row) = row.now.sums
sums_of_source (Shown sums) = sums.now
