-- The parts of two reports whose files changed in given ways from the old report to the new one.
use Rattle.std.specs.{Prelude.{◌≡◌, ℕ, Bool, if◌then◌else◌, List, map, filter, Option, Some, None}, Bool.MatchBool, List.list_any}
use Rattle.lc_changes.specs.{FileChanges.{FileChangeModel, AreFilesCompared, are_same_counts, changed_path, same_path}}
use Rattle.lc_level.specs.Level.{FileLineModel}
use Rattle.lc_rows.specs.Kept.{IsPartWith}
use Rattle.lc_sheet.specs.{ChangeKinds.are_all_changes, declared.change_kinds.ChangeKinds.ChangeKinds}
use Rattle.lc_walk.specs.declared.report.Report.{Report}

-- whether what became of a file is among some kinds: it was added, removed, stayed the same or changed; its first n attributes are compared
abbrev pub keeps_sides : ChangeKinds → ℕ → Option FileLineModel → Option FileLineModel → Bool
keeps_sides kinds n None new = kinds.added
keeps_sides kinds n (Some a) None = kinds.removed
keeps_sides kinds n (Some a) (Some b) = if are_same_counts n a b then kinds.same else kinds.changed

abbrev pub keeps_change : ChangeKinds → ℕ → FileChangeModel → Bool
keeps_change kinds n c = keeps_sides kinds n c.old_file c.new_file

-- whether one of some pairs of files has a path
abbrev pub has_path : List FileChangeModel → List ℕ → Bool
has_path pairs path = list_any (λ c. same_path path (changed_path c)) pairs

-- the files of a report that are at the paths of some pairs
abbrev pub files_of_pairs : List FileChangeModel → List FileLineModel → List FileLineModel
files_of_pairs pairs files = filter (λ (f : FileLineModel). has_path pairs f.path) files

-- both reports are set side by side, and each keeps the files of the pairs of these kinds
pub record AreParts (kinds : ChangeKinds) (n : ℕ) (old new old_part new_part : Report) : Type 0 where
  pub pairs : List FileChangeModel
  pub are_pairs : AreFilesCompared old.files.items new.files.items pairs
  pub old_kept : IsPartWith (files_of_pairs (filter (keeps_change kinds n) pairs) old.files.items) old old_part
  pub new_kept : IsPartWith (files_of_pairs (filter (keeps_change kinds n) pairs) new.files.items) new new_part

-- the parts of two reports whose files changed in these ways; if all kinds are kept, the whole reports
abbrev pub AreKeptParts : ChangeKinds → ℕ → Report → Report → Report → Report → Type 0
AreKeptParts kinds n old new old_part new_part =
    MatchBool (are_all_changes kinds) ((old_part ≡ old) × (new_part ≡ new)) (AreParts kinds n old new old_part new_part)

-- which files are kept: a mark for each file of a report
abbrev pub marks_by : List FileChangeModel → List FileLineModel → List Bool
marks_by pairs files = map (λ (f : FileLineModel). has_path pairs f.path) files

pub record AreMarked (kinds : ChangeKinds) (n : ℕ) (olds news : List FileLineModel) (old_marks new_marks : List Bool) : Type 0 where
  pub pairs : List FileChangeModel
  pub are_pairs : AreFilesCompared olds news pairs
  pub of_olds : old_marks ≡ marks_by (filter (keeps_change kinds n) pairs) olds
  pub of_news : new_marks ≡ marks_by (filter (keeps_change kinds n) pairs) news
