-- The report of what a walk found.
use Rattle.std.specs.{Prelude.{◌≡◌, ℕ, if◌then◌else◌, List, [], ◌∷◌, length, flat_map, sum_by}, List.Sorted.{IsPermutation, IsSortedByKey}}
use Rattle.lc_walk.specs.{Extension.extension_of, Tally.{CountedFile, counted, sums_of_files, IsTally}}
use Rattle.lc_walk.specs.{declared.{options.ReportLists.ReportLists, report.Report.Report}, Found.{Found, found_file, found_fault}}
use Rattle.lc_walk.specs.{Classes.classes_of, Found.{found_directory, found_skipped}, AllColumns.all_columns}
use Rattle.lc_level.specs.{FaultLines.FaultLineModel, Level.{FileLineModel, SkippedLineModel, file_below, skipped_below}}
use Rattle.lc_tree.specs.ByteOrder.{bytes_cmp}

-- what the tally needs of a counted file
abbrev pub tallied : FileLineModel → CountedFile
tallied f = counted (extension_of f.path) f.text f.count

abbrev pub tallied_in : Found → List CountedFile
tallied_in (found_file directory f) = tallied f ∷ []
tallied_in (found_fault path word) = []
tallied_in (found_directory path entries) = []
tallied_in (found_skipped directory l) = []

abbrev pub file_in : Found → List FileLineModel
file_in (found_file directory f) = file_below directory f ∷ []
file_in (found_fault path word) = []
file_in (found_directory path entries) = []
file_in (found_skipped directory l) = []

abbrev pub fault_in : Found → List FaultLineModel
fault_in (found_file directory f) = []
fault_in (found_fault path word) = record { path = path; word = word } ∷ []
fault_in (found_directory path entries) = []
fault_in (found_skipped directory l) = []

abbrev pub directory_in : Found → List (List ℕ)
directory_in (found_file directory f) = []
directory_in (found_fault path word) = []
directory_in (found_directory path entries) = path ∷ []
directory_in (found_skipped directory l) = []

abbrev pub skipped_lines_in : Found → List SkippedLineModel
skipped_lines_in (found_file directory f) = []
skipped_lines_in (found_fault path word) = []
skipped_lines_in (found_directory path entries) = []
skipped_lines_in (found_skipped directory l) = skipped_below directory l ∷ []

abbrev pub entries_in : Found → ℕ
entries_in (found_file directory f) = 0
entries_in (found_fault path word) = 0
entries_in (found_directory path entries) = entries
entries_in (found_skipped directory l) = 0

-- of all that was found: the files as the tally needs them; the lines of files, errors and skipped entries; the listed directories and
-- the number of their entries
abbrev pub tallied_of : List Found → List CountedFile
tallied_of xs = flat_map tallied_in xs

abbrev pub files_of : List Found → List FileLineModel
files_of xs = flat_map file_in xs

abbrev pub faults_of : List Found → List FaultLineModel
faults_of xs = flat_map fault_in xs

abbrev pub directories_of : List Found → List (List ℕ)
directories_of xs = flat_map directory_in xs

abbrev pub skipped_lines_of : List Found → List SkippedLineModel
skipped_lines_of xs = flat_map skipped_lines_in xs

abbrev pub entry_count : List Found → ℕ
entry_count xs = sum_by entries_in xs

-- the report of what was found has its tally by all columns, its totals and the sums by class, the numbers of listed directories and of
-- their entries, its errors, and the lists of files and of skipped entries if they are requested. Each list is in the order of the bytes of
-- the paths
pub record IsReportOf (lists : ReportLists) (xs : List Found) (r : Report) : Type 0 where
  pub lists_are : r.lists ≡ lists
  pub tally : IsTally (tallied_of xs) r.rows.items
  pub columns : r.columns ≡ all_columns
  pub totals : r.totals ≡ sums_of_files (tallied_of xs)
  pub classes : r.classes ≡ classes_of r.rows.items
  pub directories : r.directories ≡ length (directories_of xs)
  pub entries : r.entries ≡ entry_count xs
  pub files_are : IsPermutation (if lists.files then files_of xs else []) r.files.items
  pub file_order : IsSortedByKey (λ (f : FileLineModel). f.path) bytes_cmp r.files.items
  pub faults_are : IsPermutation (faults_of xs) r.faults.items
  pub fault_order : IsSortedByKey (λ (f : FaultLineModel). f.path) bytes_cmp r.faults.items
  pub skipped_are : IsPermutation (if lists.left_out then skipped_lines_of xs else []) r.skipped.items
  pub skipped_order : IsSortedByKey (λ (l : SkippedLineModel). l.path) bytes_cmp r.skipped.items

-- a report of what was found is also a report of this in any other order
abbrev pub ReportLaw : Type 0
ReportLaw = (lists : ReportLists) (xs ys : List Found) (r : Report) → IsPermutation xs ys → IsReportOf lists xs r → IsReportOf lists ys r
