-- What is true of the rows and files that a table shows.
use Rattle.std.specs.Prelude.{◌≡◌, ◌≤◌, ◌-◌, ◌&&◌, ℕ, Bool, true, if◌then◌else◌, List, length, map, take, Option, Some, unwrap_or}
use Rattle.std.specs.Prelude.{option_map}
use Rattle.std.specs.List.{All, filter}
use Rattle.std.specs.List.{join_with_byte, Sorted.IsPermutation}
use Rattle.lc_sheet.specs.Keys.{are_of_files}
use Rattle.lc_sheet.specs.declared.{table_options.Columns.Columns, column.Number.Number}
use Rattle.lc_glob.specs.{Bytes.slash, Path.{is_good_path, segments_of}}
use Rattle.lc_walk.specs.{Sums.{no_files, one_file, plus}, TallyRows.{TallyRowModel, sums_of_rows, IsInOrder}}
use Rattle.lc_walk.specs.declared.tally.sums.Sums.{Sums}
use Rattle.lc_rows.specs.{Directories.{directory_of, level_of}, RowKeys.{FileKey, RowKey, ShownRowModel, same_file_key}}
use Rattle.lc_rows.specs.{RowKeys.{rows_within, same_row_key, sums_of_shown, sums_over}, ShownFiles.{AreFilesSorted, file_number}}
use Rattle.lc_rows.specs.{ShownRows.{AreAddedUp, AreShown, AreSummed, file_key, key_in, part_of_row}, TreeRows.{AreTreeRows, is_below}}
use Rattle.lc_rows.specs.{TreeRows.{is_child, is_in}, Views.{first_of, rest_of, view_of}}
use Rattle.lc_level.specs.Level.{FileLineModel}
use Rattle.lc_walk.specs.{Classes.{binary_sums, text_sums}, AllColumns.all_columns}

-- the shown rows are the summed rows, each once
abbrev pub PermutationLaw : Type 0
PermutationLaw =
    (by : Columns) (sort : Option Number) (rs : List TallyRowModel) (fs : List FileLineModel) (shown : List ShownRowModel)
    → AreShown by sort rs fs shown → (summed : List ShownRowModel) × AreSummed by rs fs summed × IsPermutation summed shown

-- the sums over all files
abbrev pub sums_of_lines : List FileLineModel → Sums
sums_of_lines fs = sums_over (λ (f : FileLineModel). one_file f.count) fs

-- the sums over all that a table adds up: the rows of the report, or the files if rows are by directories or attributes
abbrev pub totals_of : Bool → List TallyRowModel → List FileLineModel → Sums
totals_of of_files rs fs = if of_files then sums_of_lines fs else sums_of_rows rs

-- whichever columns are missing, and however rows are sorted, the shown rows have the sums over all rows of the report, or over all files
abbrev pub TotalsLaw : Type 0
TotalsLaw =
    (by : Columns) (sort : Option Number) (rs : List TallyRowModel) (fs : List FileLineModel) (shown : List ShownRowModel)
    → AreShown by sort rs fs shown → sums_of_shown shown ≡ totals_of (are_of_files by) rs fs

-- adding up rows that are in the order of their keys changes no row if no column is missing
abbrev pub WholeLaw : Type 0
WholeLaw = (rs : List TallyRowModel) → IsInOrder rs → AreAddedUp (map (part_of_row all_columns) rs) (map (part_of_row all_columns) rs)

-- the key of a file's row in a table by directories or attributes: the file's directory, cut, if rows are by directory, and the file's key
-- in the columns that rows are grouped by
abbrev pub file_row_key : Columns → FileLineModel → RowKey
file_row_key by f = record { directory = option_map (λ n. directory_of n f.path) by.dir; key = key_in by (file_key f) }

-- for each directory and key, the rows have the sums over the files that have this key and whose own directory is cut to this directory;
-- the key has the states of the attributes that rows are grouped by
abbrev pub DirectoriesLaw : Type 0
DirectoriesLaw =
    (by : Columns) (sort : Option Number) (rs : List TallyRowModel) (fs : List FileLineModel) (shown : List ShownRowModel) (k : RowKey)
    → are_of_files by ≡ true → AreShown by sort rs fs shown
    → sums_of_shown (rows_within (same_row_key k) shown) ≡ sums_of_lines (filter (λ f. same_row_key k (file_row_key by f)) fs)

-- each file is in exactly one row of a table by directories or attributes
abbrev pub OneRowLaw : Type 0
OneRowLaw =
    (by : Columns) (sort : Option Number) (rs : List TallyRowModel) (fs : List FileLineModel) (shown : List ShownRowModel)
    → are_of_files by ≡ true → AreShown by sort rs fs shown
    → All (λ f. length (rows_within (same_row_key (file_row_key by f)) shown) ≡ 1) fs

-- the directory of a path in a tree, cut after n names, is the first n segments of the path, but never the last one; all segments are names
abbrev pub NamesLaw : Type 0
NamesLaw =
    (n : ℕ) (path : List ℕ) → is_good_path path ≡ true
    → directory_of n path ≡ join_with_byte slash (take n (take (length (segments_of path) - 1) (segments_of path)))

-- for each directory that is not below the cut, and each key, the rows of a tree have the sums over the files in this directory and below
-- it which have that key
abbrev pub TreeLaw : Type 0
TreeLaw =
    (n : ℕ) (by : Columns) (fs : List FileLineModel) (rows : List ShownRowModel) (directory : List ℕ) (key : FileKey)
    → level_of directory ≤ n → AreTreeRows n by fs rows
    → sums_of_shown (rows_within (same_row_key (record { directory = Some directory; key = key })) rows)
    ≡ sums_of_lines (filter (λ f. is_below directory f.path && same_file_key key (key_in by (file_key f))) fs)

-- for each directory and key, the sums of a row of a tree are those over the files right in the directory, and those of the rows of the
-- directories right in it
abbrev pub ChildrenLaw : Type 0
ChildrenLaw =
    (n : ℕ) (by : Columns) (fs : List FileLineModel) (rows : List ShownRowModel) (directory : List ℕ) (key : FileKey)
    → AreTreeRows n by fs rows
    → sums_of_shown (rows_within (same_row_key (record { directory = Some directory; key = key })) rows)
    ≡ plus (sums_of_lines (filter (λ f. is_in n directory f.path && same_file_key key (key_in by (file_key f))) fs))
    (sums_of_shown (rows_within (λ k. is_child directory k.directory && same_file_key key k.key) rows))

-- the shown rows of a cut table, and the sums over the other rows, add up to the sums over all rows
abbrev pub CutTotalsLaw : Type 0
CutTotalsLaw =
    (by : Columns) (sort : Option Number) (top : Option ℕ) (rs : List TallyRowModel) (fs : List FileLineModel)
    (rows : List ShownRowModel) (files : List FileLineModel) → AreShown by sort rs fs rows
    → plus (sums_of_shown (view_of top rows files).rows) (unwrap_or (view_of top rows files).others no_files)
    ≡ totals_of (are_of_files by) rs fs

-- sorted files are the files, each once
abbrev pub SortedFilesLaw : Type 0
SortedFilesLaw = (sort : Option Number) (fs sorted : List FileLineModel) → AreFilesSorted sort fs sorted → IsPermutation fs sorted

-- no file that is cut off has a larger number than a listed file
abbrev pub FirstFilesLaw : Type 0
FirstFilesLaw =
    (n : Number) (top : Option ℕ) (fs sorted : List FileLineModel) → AreFilesSorted (Some n) fs sorted
    → All (λ cut. All (λ kept. file_number n cut ≤ file_number n kept) (first_of top sorted)) (rest_of top sorted)

-- the sums over text files and over binary files add up to the sums over all rows
abbrev pub ClassesLaw : Type 0
ClassesLaw = (rs : List TallyRowModel) → plus (text_sums rs) (binary_sums rs) ≡ sums_of_rows rs
