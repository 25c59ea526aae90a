-- The report of a walk.
use Rattle.std.specs.{Prelude.{◌≡◌, List}, List.Sorted.{IsPermutation, IsSortedByKey}}
use Rattle.lc_walk.specs.{Classes.classes_of, AllColumns.all_columns}
use Rattle.lc_walk.specs.{Tally.{TallyModel, CountedFile, StandsFor, IsTally}, TallyRows.AddsUp, ReportLines.{file_paths, fault_paths}}
use Rattle.lc_walk.specs.{ReportLines.skipped_paths, declared.options.ReportLists.ReportLists}
use Rattle.lc_walk.specs.declared.report.{Report.Report, findings.Findings.Findings}
use Rattle.lc_level.specs.{FaultLines.FaultLineModel, Level.{SkippedLineModel, FileLineModel}}
use Rattle.lc_tree.specs.ByteOrder.{bytes_cmp, AreApart, AreInOrder}

-- the report made from a tally and findings, with all columns and the requested lists. Each list is in the order of the bytes of the paths,
-- strictly if no path is in it twice
pub record IsReport (t : TallyModel) (lists : ReportLists) (found : Findings) (r : Report) : Type 0 where
  pub lists_are : r.lists ≡ lists
  pub tally : (fs : List CountedFile) → StandsFor t fs → IsTally fs r.rows.items
  pub rows : AddsUp t.rows r.rows.items
  pub columns : r.columns ≡ all_columns
  pub totals : r.totals ≡ t.totals
  pub classes : r.classes ≡ classes_of r.rows.items
  pub directories : r.directories ≡ found.directories
  pub entries : r.entries ≡ found.entries
  pub files : IsPermutation found.files.items r.files.items
  pub file_order : IsSortedByKey (λ (f : FileLineModel). f.path) bytes_cmp r.files.items
  pub files_strictly : AreApart (file_paths found.files.items) → AreInOrder (file_paths r.files.items)
  pub faults : IsPermutation found.faults.items r.faults.items
  pub fault_order : IsSortedByKey (λ (f : FaultLineModel). f.path) bytes_cmp r.faults.items
  pub faults_strictly : AreApart (fault_paths found.faults.items) → AreInOrder (fault_paths r.faults.items)
  pub skipped : IsPermutation found.skipped.items r.skipped.items
  pub skipped_order : IsSortedByKey (λ (l : SkippedLineModel). l.path) bytes_cmp r.skipped.items
  pub skipped_strictly : AreApart (skipped_paths found.skipped.items) → AreInOrder (skipped_paths r.skipped.items)
