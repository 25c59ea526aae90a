-- The files of a comparison: files that one report alone has, and files that differ between both.
use Rattle.std.specs.Prelude.{◌≡◌, ℕ, ◌==◌, Bool, true, false, ◌&&◌, not, List, [], filter, take, Option, Some, None}
use Rattle.std.specs.{Bool.MatchBool, List.{Contains, Sorted.IsStrictlySortedBy}, Option.{MatchOption, option_or}}
use Rattle.std.specs.{Option.option_map_or, Ordering.{eq_by_cmp, on}, declared.cmp.Ordering.Ordering}
use Rattle.lc_changes.specs.{Changes.{AreSortedBy, distance, largest_first}, Merged.{AreMerged, has_key}}
use Rattle.lc_level.specs.Level.{FileLineModel}
use Rattle.lc_rows.specs.{RowKeys.{RowKey, same_row_key}, ShownFiles.file_number}
use Rattle.lc_sheet.specs.declared.column.Number.{Number}
use Rattle.lc_tree.specs.ByteOrder.{bytes_cmp}

-- a file in the old report and in the new one, if they have it
pub record FileChangeModel : Type 0 where
  pub old_file : Option FileLineModel
  pub new_file : Option FileLineModel

-- the file of the new report, or the file of the old report if the new one lacks it; its path is below
abbrev pub either_file : FileChangeModel → Option FileLineModel
either_file c = option_or c.new_file c.old_file

abbrev pub file_path : FileLineModel → List ℕ
file_path f = f.path

abbrev pub changed_path : FileChangeModel → List ℕ
changed_path c = option_map_or file_path (either_file c) []

abbrev pub same_path : List ℕ → List ℕ → Bool
same_path = eq_by_cmp bytes_cmp

-- one of some files, or none if there are none
abbrev pub IsOneOf : List FileLineModel → Option FileLineModel → Type 0
IsOneOf files file = MatchOption file (files ≡ []) (Contains files)

-- a change is made of files of both reports: of one of the old files and of one of the new files, if there are any
abbrev pub IsFileOf : List FileLineModel → List FileLineModel → FileChangeModel → Type 0
IsFileOf olds news c = IsOneOf olds c.old_file × IsOneOf news c.new_file

-- for each path that some report has, a file of each report at this path, or none if the report has none there, in the order of paths
abbrev pub AreFilesCompared : List FileLineModel → List FileLineModel → List FileChangeModel → Type 0
AreFilesCompared = AreMerged file_path bytes_cmp changed_path IsFileOf

-- ---- what changed

-- what is compared of a file beside its numbers: the states of the first n attributes, the state of `text`, and how its lines end
abbrev pub compared_key : ℕ → FileLineModel → RowKey
compared_key n f = record {
  directory = None;
  key = record { attributes = take n f.asked; tally = record { extension = None; text = f.text; eol = f.count.eol } };
}

-- whether two files are alike in all but their paths and the states of attributes after the first n
abbrev pub are_same_counts : ℕ → FileLineModel → FileLineModel → Bool
are_same_counts n a b = same_row_key (compared_key n a) (compared_key n b)
    && a.count.lines == b.count.lines && a.count.blank == b.count.blank && a.count.bytes == b.count.bytes

abbrev pub sides_differ : ℕ → Option FileLineModel → Option FileLineModel → Bool
sides_differ n (Some a) (Some b) = not (are_same_counts n a b)
sides_differ n (Some a) None = true
sides_differ n None (Some b) = true
sides_differ n None None = false

-- whether a file was added, removed or changed; its first n attributes are compared
abbrev pub is_changed : ℕ → FileChangeModel → Bool
is_changed n c = sides_differ n c.old_file c.new_file

-- the files that a comparison lists: those that were added, removed or changed, or none at all
abbrev pub AreFilesChanged : Bool → ℕ → List FileLineModel → List FileLineModel → List FileChangeModel → Type 0
AreFilesChanged listed n olds news changes = MatchBool listed
    ((compared : List FileChangeModel) × AreFilesCompared olds news compared × (changes ≡ filter (is_changed n) compared))
    (changes ≡ [])

-- ---- their order

-- a number of a file, or 0 if the report lacks the file
abbrev pub side_number : Number → Option FileLineModel → ℕ
side_number n file = option_map_or (file_number n) file 0

abbrev pub file_change : Number → FileChangeModel → ℕ
file_change n c = distance (side_number n c.old_file) (side_number n c.new_file)

-- the largest change first, and files of equal changes by their paths
abbrev pub file_change_cmp : Number → FileChangeModel → FileChangeModel → Ordering
file_change_cmp = largest_first file_change (on changed_path bytes_cmp)

abbrev pub AreFileChangesSorted : Option Number → List FileChangeModel → List FileChangeModel → Type 0
AreFileChangesSorted = AreSortedBy file_change_cmp

-- ---- the files of one report

-- one file for each path that some file has, in the order of paths
pub record AreByPath (files sorted : List FileLineModel) : Type 0 where
  pub given : (f : FileLineModel) → Contains sorted f → Contains files f
  pub present : (paths : List ℕ → Bool) → has_key file_path paths sorted ≡ has_key file_path paths files
  pub order : IsStrictlySortedBy (on file_path bytes_cmp) sorted
