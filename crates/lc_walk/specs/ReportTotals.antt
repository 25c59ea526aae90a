-- The totals of a report.
use Rattle.std.specs.{Prelude.{◌≡◌, ℕ, true, List, map, Ok}, List.after_last}
use Rattle.lc_glob.specs.{Bytes.slash, Pieces.is_byte}
use Rattle.lc_level.specs.Level.{FileLineModel}
use Rattle.lc_tree.specs.Trees.{Listings, Contents}
use Rattle.lc_walk.specs.{Extension.extension_of, Sums.plus, Tally.{CountedFile, IsTally, counted, sums_of_files}, TallyRows.sums_of_rows}
use Rattle.lc_walk.specs.Walks.{Walks}
use Rattle.lc_walk.specs.declared.{options.Options.Options, report.Report.Report}

-- a file of a report, as the tally counts it: by the extension of what is after the last slash of its path
abbrev pub counted_line : FileLineModel → CountedFile
counted_line f = counted (extension_of (after_last (is_byte slash) f.path)) f.text f.count

-- the totals are the sums over the rows, and those over text and over binary files. If the report lists its files, the totals are also the
-- sums over the files, and the rows are the files' tally
pub record TotalsAddUp (r : Report) : Type 0 where
  pub rows : r.totals ≡ sums_of_rows r.rows.items
  pub classes : r.totals ≡ plus r.classes.text r.classes.binary
  pub files : r.lists.files ≡ true → r.totals ≡ sums_of_files (map counted_line r.files.items)
  pub tally : r.lists.files ≡ true → IsTally (map counted_line r.files.items) r.rows.items

-- the totals of each report of a walk add up
abbrev pub ReportTotalsLaw : (List ℕ → Listings) → (List ℕ → Contents) → Type 0
ReportTotalsLaw lists gives = (o : Options) (r : Report) → Walks lists gives o (Ok r) → TotalsAddUp r
