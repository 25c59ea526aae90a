-- The rows that a table shows: summed over the columns that the table lacks, and sorted.
use Rattle.std.specs.Prelude.{◌≡◌, ℕ, Bool, true, false, if◌then◌else◌, List, [], map, take, Option, Some, None, option_map}
use Rattle.std.specs.Bool.{MatchBool}
use Rattle.std.specs.{List.Sorted.{IsPermutation, IsSorted}, Ordering.{nat_cmp, on, then_cmp}, declared.cmp.Ordering.Ordering}
use Rattle.lc_census.specs.declared.line_count.Eol.TheVariants.{NoEnd}
use Rattle.lc_rules.specs.declared.states.TextState.TheVariants.{Unspecified}
use Rattle.lc_sheet.specs.Keys.{are_all, are_of_files}
use Rattle.lc_sheet.specs.declared.{table_options.Columns.Columns, column.Number.{Number, TheVariants.{Files, Lines, Blank, Bytes}}}
use Rattle.lc_walk.specs.{Extension.extension_of, Key.Key, Sums.one_file, TallyRows.TallyRowModel, declared.tally.sums.Sums.Sums}
use Rattle.lc_rows.specs.{Directories.{directory_of, name_of}, RowKeys.{FileKey, RowKey, ShownRowModel, AreInRowOrder, has_within, row_key}}
use Rattle.lc_rows.specs.RowKeys.{row_key_cmp, rows_within, sums_of_shown}
use Rattle.lc_level.specs.Level.{FileLineModel}

-- the key of a tally in the columns that rows are grouped by; any other column is the same in all keys
abbrev pub tally_in : Columns → Key → Key
tally_in by k = record {
  extension = if by.ext then k.extension else None;
  text = if by.text then k.text else Unspecified;
  eol = if by.eol then k.eol else NoEnd;
}

-- and the key of a file, which has the states of the first attributes
abbrev pub key_in : Columns → FileKey → FileKey
key_in by k = record { attributes = take by.attributes k.attributes; tally = tally_in by k.tally }

-- the key of a file
abbrev pub file_key : FileLineModel → FileKey
file_key f = record {
  attributes = f.asked;
  tally = record { extension = extension_of (name_of f.path); text = f.text; eol = f.count.eol };
}

-- the whole key of a file: its directory, cut after n names, if files have directories, and its key
abbrev pub whole_key : Option ℕ → FileLineModel → RowKey
whole_key depth f = record { directory = option_map (λ n. directory_of n f.path) depth; key = file_key f }

-- what a row of the report adds to a table without directories and attributes
abbrev pub part_of_row : Columns → TallyRowModel → ShownRowModel
part_of_row by r = record { directory = None; key = record { attributes = []; tally = tally_in by r.key }; sums = r.sums }

-- what a file adds to a table of its key, and of directories that are cut after n names, if rows are by directory
abbrev pub part_of_file : Columns → Option ℕ → FileLineModel → ShownRowModel
part_of_file by depth f = record {
  directory = option_map (λ n. directory_of n f.path) depth;
  key = key_in by (file_key f);
  sums = one_file f.count;
}

-- the parts that the rows of a table add up: the rows of the report, or the files if rows are by directories or attributes
abbrev pub parts_in : Bool → Columns → List TallyRowModel → List FileLineModel → List ShownRowModel
parts_in false by rs fs = map (part_of_row by) rs
parts_in true by rs fs = map (part_of_file by by.dir) fs

abbrev pub parts_of : Columns → List TallyRowModel → List FileLineModel → List ShownRowModel
parts_of by rs fs = parts_in (are_of_files by) by rs fs

-- a row for each key that some part has, with the sums over the parts of this key, in order of keys. So for each set of keys, rows and
-- parts have the same sums, and some row has a key of the set if some part has
pub record AreAddedUp (parts rows : List ShownRowModel) : Type 0 where
  pub sums : (keys : RowKey → Bool) → sums_of_shown (rows_within keys rows) ≡ sums_of_shown (rows_within keys parts)
  pub present : (keys : RowKey → Bool) → has_within keys rows ≡ has_within keys parts
  pub order : AreInRowOrder rows

-- the rows as they are in the report if they have its columns, and no other; otherwise what the parts add up to
abbrev pub AreSummed : Columns → List TallyRowModel → List FileLineModel → List ShownRowModel → Type 0
AreSummed by rs fs summed = MatchBool (are_all by) (summed ≡ parts_of by rs fs) (AreAddedUp (parts_of by rs fs) summed)

-- a number of some sums, such as the number of lines
abbrev pub number_in : Number → Sums → ℕ
number_in Files s = s.files
number_in Lines s = s.lines
number_in Blank s = s.blank
number_in Bytes s = s.bytes

-- the order of rows by a number, largest first
abbrev pub by_number : Number → ShownRowModel → ShownRowModel → Ordering
by_number n a b = nat_cmp (number_in n b.sums) (number_in n a.sums)

-- the largest number first, and rows of equal numbers by their directories and keys
abbrev pub row_cmp : Number → ShownRowModel → ShownRowModel → Ordering
row_cmp n = then_cmp (by_number n) (on row_key row_key_cmp)

-- the rows in the given order, or sorted by a number
abbrev pub AreSorted : Option Number → List ShownRowModel → List ShownRowModel → Type 0
AreSorted None rs sorted = sorted ≡ rs
AreSorted (Some n) rs sorted = IsPermutation rs sorted × IsSorted (row_cmp n) sorted

-- the rows that a table shows of a report's rows and files
abbrev pub AreShown : Columns → Option Number → List TallyRowModel → List FileLineModel → List ShownRowModel → Type 0
AreShown by sort rs fs shown = (summed : List ShownRowModel) × AreSummed by rs fs summed × AreSorted sort summed shown
