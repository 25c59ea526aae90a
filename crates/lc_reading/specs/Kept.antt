-- The rows and the files of a report, made from those that were read.
use Rattle.std.specs.Prelude.{◌≡◌, ◌≢◌, ◌⊎◌, true, false, List, [], map, Option, Some, None, is_some, unwrap_or}
use Rattle.std.specs.List.Sorted.{IsPermutation, IsSortedByKey}
use Rattle.lc_level.specs.{FaultLines.FaultLineModel, Level.{FileLineModel, SkippedLineModel}}
use Rattle.lc_tree.specs.ByteOrder.{bytes_cmp}
use Rattle.lc_walk.specs.{ReportTotals.counted_line, Sums.plus, Tally.{IsTally, sums_of_files}, TallyRows.{AddsUp, TallyRowModel}}
use Rattle.lc_walk.specs.{TallyRows.sums_of_rows, declared.tally.sums.Sums.Sums}
use Rattle.lc_reading.specs.declared.{numbers_of.Numbers.Numbers, kept_files.Kept.Kept}
use Rattle.lc_walk.specs.{Classes.binary_sums, AllColumns.all_columns}
use Rattle.lc_sheet.specs.declared.table_options.Columns.{Columns}
use Rattle.lc_walk.specs.declared.report.Report.{Report}

-- the report lists these files, in order of their paths; its rows are those that the files make
pub record IsKeptOf (total : Sums) (files : List FileLineModel) (k : Kept) : Type 0 where
  pub columns_are : k.columns ≡ all_columns
  pub listed : k.has_files ≡ true
  pub same : IsPermutation files k.files.items
  pub order : IsSortedByKey (λ (f : FileLineModel). f.path) bytes_cmp k.files.items
  pub tally : IsTally (map counted_line k.files.items) k.rows.items
  pub files_are : total ≡ sums_of_files (map counted_line k.files.items)
  pub rows_are : total ≡ sums_of_rows k.rows.items

-- the report lists no files; its rows are those that were read, one for each key
pub record IsKeptRows (total : Sums) (columns : Columns) (rows : List TallyRowModel) (k : Kept) : Type 0 where
  pub columns_are : k.columns ≡ columns
  pub unlisted : k.has_files ≡ false
  pub none : k.files.items ≡ []
  pub added : AddsUp rows k.rows.items
  pub rows_are : total ≡ sums_of_rows k.rows.items

-- the report has the files if they were listed, or if there are none; otherwise it has the rows that were read
abbrev pub IsKept : Option (List FileLineModel) → Columns → List TallyRowModel → Sums → Kept → Type 0
IsKept (Some files) columns rows total k = IsKeptOf total files k
IsKept None columns rows total k = (IsKeptOf total [] k × (total.files ≡ 0)) ⊎ (IsKeptRows total columns rows k × (total.files ≢ 0))

-- the rows that were read add up to the total, and those of binary files to the sums of these; so do the rows and files of the report
pub record Agrees (n : Numbers) (columns : Columns) (rows : List TallyRowModel) (files : Option (List FileLineModel)) (k : Kept) :
    Type 0 where
  pub rows_are : n.total ≡ sums_of_rows rows
  pub rows_nul : columns.eol ≡ true → n.binary ≡ binary_sums rows
  pub kept : IsKept files columns rows n.total k
  pub parts : n.total ≡ plus n.text n.binary
  pub nul : k.columns.eol ≡ true → n.binary ≡ binary_sums k.rows.items

-- the report made from these numbers, rows, files and lists
pub record IsFinished (n : Numbers) (k : Kept) (skipped : List SkippedLineModel) (faults : List FaultLineModel) (r : Report) : Type 0
  where
    pub totals_are : r.totals ≡ n.total
    pub classes_are : r.classes ≡ record { text = n.text; binary = n.binary }
    pub directories_are : r.directories ≡ n.directories
    pub entries_are : r.entries ≡ unwrap_or n.entries 0
    pub left_out : r.lists.left_out ≡ is_some n.entries
    pub has_files : r.lists.files ≡ k.has_files
    pub columns_are : r.columns ≡ k.columns
    pub rows_are : r.rows ≡ k.rows
    pub files_are : r.files ≡ k.files
    pub skipped_are : IsPermutation skipped r.skipped.items
    pub skipped_order : IsSortedByKey (λ (l : SkippedLineModel). l.path) bytes_cmp r.skipped.items
    pub faults_are : IsPermutation faults r.faults.items
    pub faults_order : IsSortedByKey (λ (f : FaultLineModel). f.path) bytes_cmp r.faults.items
