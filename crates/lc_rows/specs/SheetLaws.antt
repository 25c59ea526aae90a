-- What is true of the sheet of a report, whatever its format.
use Rattle.std.specs.{Prelude.{⊤, ◌≡◌, ◌≤◌, ℕ, ◌+◌, Bool, true, false, if◌then◌else◌, List, [], ◌∷◌, map, Some}, List.{All, sum_by}}
use Rattle.lc_sheet.specs.{Sheets.{SectionModel, SheetModel}, Values.{ValueModel, missing, summed, blank, word, flag, name, path, number}}
use Rattle.lc_sheet.specs.{Keys.are_of_files, Values.{share, bar, difference, growth}}
use Rattle.lc_sheet.specs.declared.column.{Column.Column, Number.{Number, TheVariants.{Files, Lines, Blank, Bytes}}}
use Rattle.lc_sheet.specs.declared.table_options.TableOptions.{TableOptions}
use Rattle.lc_tree.specs.Trees.{Listings, Contents}
use Rattle.lc_walk.specs.{Sums.plus, declared.{options.Options.Options, report.Report.Report}}
use Rattle.lc_rows.specs.{Laws.totals_of, Sheets.IsSheetOf, ShownFiles.AreFilesSorted, Views.first_of}
use Rattle.lc_rows.specs.WalkedReports.{IsOfWalk, ListsFilesFor}
use Rattle.lc_level.specs.Level.{FileLineModel}
use Rattle.lc_sheet.specs.declared.column.Column.TheVariants as column

abbrev pub same_number : Number → Number → Bool
same_number Files Files = true
same_number Lines Lines = true
same_number Blank Blank = true
same_number Bytes Bytes = true
same_number n m = false

-- whether a column is the one of this number
abbrev pub is_number : Number → Column → Bool
is_number n (column.Number m) = same_number n m
is_number n other = false

abbrev pub number_of : ValueModel → ℕ
number_of (number n) = n
number_of value = 0

-- the number of a line in the column of this number
abbrev pub number_at : Number → List Column → List ValueModel → ℕ
number_at n [] vs = 0
number_at n (c ∷ cs) [] = 0
number_at n (c ∷ cs) (v ∷ vs) = if is_number n c then number_of v else number_at n cs vs

-- the numbers of all lines in the column of this number; their sum is below
abbrev pub numbers_in : Number → SectionModel → List ℕ
numbers_in n s = map (number_at n s.columns) s.lines

abbrev pub column_sum : Number → SectionModel → ℕ
column_sum n s = sum_by (number_at n s.columns) s.lines

-- the number of the first line in the column of this number
abbrev pub number_of_first : Number → List Column → List (List ValueModel) → ℕ
number_of_first n columns [] = 0
number_of_first n columns (line ∷ lines) = number_at n columns line

abbrev pub first_number : Number → SectionModel → ℕ
first_number n s = number_of_first n s.columns s.lines

-- the totals of a report are the sums over what a table adds up: the report's rows, or its files if rows are by directories or attributes
abbrev pub HasTotals : TableOptions → Report → Type 0
HasTotals options r = r.totals ≡ totals_of (are_of_files options.by) r.rows.items r.files.items

-- in each column of numbers, the shown rows and the sums over the rows that are cut off add up to the total
abbrev pub RowsAddUp : SheetModel → Type 0
RowsAddUp s = (n : Number) → column_sum n s.rows + column_sum n s.others ≡ first_number n s.totals

abbrev pub SheetTotalsLaw : Type 0
SheetTotalsLaw =
    (options : TableOptions) (attributes : List (List ℕ)) (r : Report) (s : SheetModel) → HasTotals options r
    → IsSheetOf options attributes r s
    → RowsAddUp s

-- in each column of numbers, text files and binary files add up to the total
abbrev pub ClassesAddUp : SheetModel → Type 0
ClassesAddUp s = (n : Number) → (text : ℕ) × (binary : ℕ) × (numbers_in n s.totals ≡ (text + binary) ∷ text ∷ binary ∷ [])

-- the totals of a report are the sums over text files plus the sums over binary files
abbrev pub HasClassTotals : Report → Type 0
HasClassTotals r = r.totals ≡ plus r.classes.text r.classes.binary

abbrev pub SheetClassesLaw : Type 0
SheetClassesLaw =
    (options : TableOptions) (attributes : List (List ℕ)) (r : Report) (s : SheetModel) → HasClassTotals r
    → IsSheetOf options attributes r s → ClassesAddUp s

-- a share or a bar is of a part that is no larger than its whole
abbrev pub IsWithin : ValueModel → Type 0
IsWithin missing = ⊤
IsWithin summed = ⊤
IsWithin blank = ⊤
IsWithin (word w) = ⊤
IsWithin (flag is_set) = ⊤
IsWithin (name n) = ⊤
IsWithin (path p) = ⊤
IsWithin (number n) = ⊤
IsWithin (share part whole) = part ≤ whole
IsWithin (bar part whole) = part ≤ whole
IsWithin (difference old new) = ⊤
IsWithin (growth old new) = ⊤

abbrev pub IsSectionWithin : SectionModel → Type 0
IsSectionWithin section = All (λ (line : List ValueModel). All IsWithin line) section.lines

-- no share is larger than the total, and no bar is longer than the bar of the largest number
pub record SharesAreWithin (s : SheetModel) : Type 0 where
  pub rows : IsSectionWithin s.rows
  pub others : IsSectionWithin s.others
  pub totals : IsSectionWithin s.totals

abbrev pub SheetPartsLaw : Type 0
SheetPartsLaw =
    (options : TableOptions) (attributes : List (List ℕ)) (r : Report) (s : SheetModel) → HasTotals options r
    → IsSheetOf options attributes r s
    → IsSectionWithin s.rows × IsSectionWithin s.others

abbrev pub ClassPartsLaw : Type 0
ClassPartsLaw =
    (options : TableOptions) (attributes : List (List ℕ)) (r : Report) (s : SheetModel) → HasClassTotals r
    → IsSheetOf options attributes r s → IsSectionWithin s.totals

-- rows and classes add up, and no share is over its whole
pub record SheetAddsUp (s : SheetModel) : Type 0 where
  pub rows : RowsAddUp s
  pub classes : ClassesAddUp s
  pub shares : SharesAreWithin s

-- each sheet of a walk's report adds up, and each sheet of the part of such a report that meets conditions; for a sheet by
-- directories or attributes, the walk must list its files
abbrev pub WalkedSheetLaw : (List ℕ → Listings) → (List ℕ → Contents) → Type 0
WalkedSheetLaw lists gives =
    (o : Options) (options : TableOptions) (attributes : List (List ℕ)) (r : Report) (s : SheetModel)
    → IsOfWalk lists gives o r → ListsFilesFor o options → IsSheetOf options attributes r s → SheetAddsUp s

abbrev pub bytes_of : ValueModel → List ℕ
bytes_of (path p) = p
bytes_of value = []

-- the path of a line
abbrev pub path_at : List Column → List ValueModel → List ℕ
path_at [] vs = []
path_at (c ∷ cs) [] = []
path_at (column.Path ∷ cs) (v ∷ vs) = bytes_of v
path_at (c ∷ cs) (v ∷ vs) = path_at cs vs

-- the files that a sheet lists are the first of the report's sorted files
abbrev pub SheetFilesLaw : Type 0
SheetFilesLaw =
    (options : TableOptions) (attributes : List (List ℕ)) (r : Report) (s : SheetModel) (section : SectionModel)
    → IsSheetOf options attributes r s
    → s.files ≡ Some section
    → (files : List FileLineModel) × AreFilesSorted options.sort r.files.items files
    × (map (path_at section.columns) section.lines ≡ map (λ (f : FileLineModel). f.path) (first_of options.top files))
