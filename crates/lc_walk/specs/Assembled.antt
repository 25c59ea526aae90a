-- What report is made from the rows of a closed board.
use Rattle.std.specs.Prelude.{◌≡◌, ℕ, zero, suc, ◌<◌, List, [], ◌∷◌, length, map, flat_map, sum_by, slice_get, Some, Result, Ok, Err}
use Rattle.lc_board.specs.declared.answers.Ended.{Ended}
use Rattle.lc_walk.specs.{Tally.TallyModel, Report.IsReport, declared.options.ReportLists.ReportLists}
use Rattle.lc_walk.specs.declared.report.{Report.Report, findings.Findings.Findings}
use Rattle.lc_walk.specs.declared.broken_cause.BrokenCause.{BrokenCause, TheVariants.{Memory, TooManyDirs, TooDeep}}
use Rattle.lc_walk.specs.declared.{row.Row.{Row, TheVariants.{Listed, Faulted, Broken}}, walk_fault.WalkFault.WalkFault}
use Rattle.lc_walk.specs.{RowViews.ChildModel, Rows.{row_of, job_of, children_in}, ClosedWalks.AreWhole}
use Rattle.lc_level.specs.{FaultLines.{FaultLineModel, fault_below}, SitePaths.site_path, Level.{skipped_below, file_below}}
use Rattle.lc_level.specs.Level.{SkippedLineModel, FileLineModel}
use Rattle.lc_glob.specs.Path.{path_in}
use Rattle.lc_walk.specs.declared.walk_fault.WalkFault.TheVariants as fault

-- ---- what the rows themselves say

abbrev pub directories_by_row : Row → List (List ℕ)
directories_by_row (Listed r) = r.job.path ∷ []
directories_by_row (Faulted r) = []
directories_by_row (Broken r) = []

abbrev pub files_by_row : Row → List FileLineModel
files_by_row (Listed r) = map (file_below r.job.path) r.files
files_by_row (Faulted r) = []
files_by_row (Broken r) = []

abbrev pub faults_by_row : Row → List FaultLineModel
faults_by_row (Listed r) = map (fault_below r.job.path) r.faults
faults_by_row (Faulted r) = record { path = site_path r.job.path r.site; word = r.word } ∷ []
faults_by_row (Broken r) = []

abbrev pub skipped_by_row : Row → List SkippedLineModel
skipped_by_row (Listed r) = map (skipped_below r.job.path) r.skipped
skipped_by_row (Faulted r) = []
skipped_by_row (Broken r) = []

abbrev pub entries_by_row : Row → ℕ
entries_by_row (Listed r) = r.entries
entries_by_row (Faulted r) = 0
entries_by_row (Broken r) = 0

-- in all rows: the listed directories, the number of their entries, the stored lines of files, and the lines of errors and skipped entries
abbrev pub directories_in_rows : List (Ended Row) → List (List ℕ)
directories_in_rows rows = flat_map (λ e. directories_by_row (row_of e)) rows

abbrev pub entries_in_rows : List (Ended Row) → ℕ
entries_in_rows rows = sum_by (λ e. entries_by_row (row_of e)) rows

abbrev pub files_in_rows : List (Ended Row) → List FileLineModel
files_in_rows rows = flat_map (λ e. files_by_row (row_of e)) rows

abbrev pub faults_in_rows : List (Ended Row) → List FaultLineModel
faults_in_rows rows = flat_map (λ e. faults_by_row (row_of e)) rows

abbrev pub skipped_in_rows : List (Ended Row) → List SkippedLineModel
skipped_in_rows rows = flat_map (λ e. skipped_by_row (row_of e)) rows

-- the findings have exactly the numbers and lines of the rows
pub record AreFindings (rows : List (Ended Row)) (found : Findings) : Type 0 where
  pub directories : found.directories ≡ length (directories_in_rows rows)
  pub entries : found.entries ≡ entries_in_rows rows
  pub files : found.files.items ≡ files_in_rows rows
  pub faults : found.faults.items ≡ faults_in_rows rows
  pub skipped : found.skipped.items ≡ skipped_in_rows rows

-- ---- whether they make a tree

-- the row of `parent` names the number as its child at the place `at`
pub record IsEdge (rows : List (Ended Row)) (parent at k : ℕ) : Type 0 where
  pub above : Ended Row
  pub is : slice_get rows parent ≡ Some above
  pub child : ChildModel
  pub here : slice_get (children_in (row_of above)) at ≡ Some child
  pub number : child.number ≡ k

-- exactly one row names the number as a child, once; that row's number is lower. The path at the number is the parent's path with the
-- child's name
pub record IsLinkedOnce (rows : List (Ended Row)) (k : ℕ) (row : Row) : Type 0 where
  pub parent : ℕ
  pub at : ℕ
  pub lower : parent < k
  pub edge : IsEdge rows parent at k
  pub path : (job_of row).path ≡ path_in (job_of (row_of edge.above)).path edge.child.name
  pub only : (p i : ℕ) → IsEdge rows p i k → (p ≡ parent) × (i ≡ at)

-- the top's path is empty, and each other number is linked once
abbrev pub IsPlaced : List (Ended Row) → ℕ → Type 0
IsPlaced rows zero = (e : Ended Row) × (slice_get rows 0 ≡ Some e) × ((job_of (row_of e)).path ≡ [])
IsPlaced rows (suc k) = (e : Ended Row) → slice_get rows (suc k) ≡ Some e → IsLinkedOnce rows (suc k) (row_of e)

-- ---- what each result of `assemble` means

-- the rows make a tree, none is Broken, and the report is that of the tally and of the rows
pub record IsAssembled (lists : ReportLists) (tally : TallyModel) (rows : List (Ended Row)) (r : Report) : Type 0 where
  pub whole : AreWhole rows
  pub placed : (k : ℕ) → IsPlaced rows k
  pub found : Findings
  pub told : AreFindings rows found
  pub report : IsReport tally lists found r

-- some row is Broken with this cause
abbrev pub IsBrokenBy : BrokenCause → Row → Type 0
IsBrokenBy cause (Listed r) = ⊥
IsBrokenBy cause (Faulted r) = ⊥
IsBrokenBy cause (Broken r) = r.cause ≡ cause

abbrev pub SomeBroken : BrokenCause → List (Ended Row) → Type 0
SomeBroken cause rows = (i : ℕ) × ((e : Ended Row) × (slice_get rows i ≡ Some e) × IsBrokenBy cause (row_of e))

-- why there is no report: the cause of a Broken row, Memory before others; or else a number at which the rows make no tree; or Memory
abbrev pub RefusesRows : List (Ended Row) → WalkFault → Type 0
RefusesRows rows fault.Memory = Unit {0}
RefusesRows rows fault.TooManyDirs = SomeBroken TooManyDirs rows × ¬ SomeBroken Memory rows
RefusesRows rows fault.TooDeep = SomeBroken TooDeep rows × ¬ SomeBroken Memory rows
RefusesRows rows (fault.Torn n) = AreWhole rows × ¬ IsPlaced rows n
RefusesRows rows (fault.Mismatch w) = ⊥

abbrev pub Assembles : ReportLists → TallyModel → List (Ended Row) → Result Report WalkFault → Type 0
Assembles lists tally rows (Ok r) = IsAssembled lists tally rows r
Assembles lists tally rows (Err f) = RefusesRows rows f
