-- Which entries of a directory stay, and which are skipped: gitignore(5), PATTERN FORMAT, and the filters.
use Rattle.std.specs.Prelude.{◌≡◌, ℕ, Bool, true, false, ◌&&◌, cond, if◌then◌else◌, is_none, List, [], ◌∷◌, ◌++◌, map, nat_lt, Vec}
use Rattle.std.specs.{Prelude.{Option, Some, None, Result, Ok, Err, unwrap_or}, List.{flat_map, list_any}, Global.Global}
use Rattle.lc_level.specs.{Deep.is_too_deep, Job.JobModel, Level.{Reason, other_kind, SkippedLineModel, reason_for, is_taken, is_counted}}
use Rattle.lc_level.specs.{Level.{child_job, job_at}, Filters.FiltersModel, declared.classify.Classified.Classified}
use Rattle.lc_level.specs.declared.open_fault.OpenFault.{OpenFault, TheVariants.{Faulted, Memory, TooDeep}}
use Rattle.lc_tree.specs.{Kinds.{is_file, is_dir}, Listing.EntryModel, declared.entry.Kind.{Kind, TheVariants.{File, Dir, Other}}}
use Rattle.lc_tree.specs.declared.entry.OtherKind.{OtherKind}
use Rattle.lc_glob.specs.Path.{depth_of, max_depth}

-- the name of an entry if it is a file that stays; and below, the child directory if it is a directory that stays
abbrev pub kept_file : FiltersModel → JobModel → EntryModel → List (List ℕ)
kept_file f j e = cond (is_file e.kind && is_counted f j e.name) (e.name ∷ []) []

abbrev pub kept_directory : FiltersModel → JobModel → EntryModel → List (List ℕ × JobModel)
kept_directory f j e = cond (is_dir e.kind && is_taken f j e.name true) ((e.name, child_job j e.name) ∷ []) []

-- an entry that is skipped for this reason; nothing if there is no reason
abbrev pub skipped_by : List ℕ → Kind → Option Reason → List SkippedLineModel
skipped_by name kind None = []
skipped_by name kind (Some reason) = record { path = name; kind = kind; reason = reason } ∷ []

-- the skipped entry if `left_out` is set, nothing otherwise
abbrev pub kept_skipped : Bool → List ℕ → Kind → Option Reason → List SkippedLineModel
kept_skipped left_out name kind reason = if left_out then skipped_by name kind reason else []

abbrev pub skipped_entry : Bool → FiltersModel → JobModel → EntryModel → List SkippedLineModel
skipped_entry left_out f j e = kept_skipped left_out e.name e.kind (reason_for f j e.name e.kind)

-- the bytes of names
abbrev pub bytes_of : List (Vec ℕ Global) → List (List ℕ)
bytes_of names = map (λ (n : Vec ℕ Global). n.items) names

-- the new lists are the old ones, with these names of files, child directories and skipped entries added
pub record Gains (old new : Classified) (files : List (List ℕ)) (children : List (List ℕ × JobModel))
    (skipped : List SkippedLineModel) : Type 0 where
  pub files_are : bytes_of new.files.items ≡ bytes_of old.files.items ++ files
  pub children_are : new.children.items ≡ old.children.items ++ children
  pub skipped_are : new.skipped.items ≡ old.skipped.items ++ skipped

-- the result of classifying the file of a name, by the reason for which it is skipped, if there is one
abbrev pub ClassifiesFile : Bool → Option Reason → List ℕ → Classified → Classified → Result (Unit {0}) OpenFault → Type 0
ClassifiesFile left_out reason name old new (Ok _) =
    Gains old new (cond (is_none reason) (name ∷ []) []) [] (kept_skipped left_out name File reason)
ClassifiesFile left_out reason name old new (Err Memory) = Unit {0}
ClassifiesFile left_out reason name old new (Err TooDeep) = ⊥
ClassifiesFile left_out reason name old new (Err (Faulted site word)) = ⊥

-- the job of a child directory at a path, or an error if the path has too many segments
abbrev pub IsChild : JobModel → List ℕ → Result JobModel OpenFault → Type 0
IsChild j path (Ok child) = (child ≡ job_at j path) × (nat_lt max_depth (depth_of path) ≡ false)
IsChild j path (Err Memory) = Unit {0}
IsChild j path (Err TooDeep) = nat_lt max_depth (depth_of path) ≡ true
IsChild j path (Err (Faulted site word)) = ⊥

-- the result of classifying a child directory: an error if it stays and its path has too many segments
abbrev pub ClassifiesDirectory : Bool → Option Reason → Bool → List ℕ × JobModel → Classified → Classified → Result (Unit {0}) OpenFault
    → Type 0
ClassifiesDirectory left_out reason deep child old new (Ok _) =
    Gains old new [] (cond (is_none reason) (child ∷ []) []) (kept_skipped left_out child.0 Dir reason)
    × ((is_none reason && deep) ≡ false)
ClassifiesDirectory left_out reason deep child old new (Err Memory) = Unit {0}
ClassifiesDirectory left_out reason deep child old new (Err TooDeep) = (is_none reason ≡ true) × (deep ≡ true)
ClassifiesDirectory left_out reason deep child old new (Err (Faulted site word)) = ⊥

-- the result of skipping an entry of any kind
abbrev pub LeavesOut : Bool → Reason → List ℕ → Kind → Classified → Classified → Result (Unit {0}) OpenFault → Type 0
LeavesOut left_out reason name kind old new (Ok _) = Gains old new [] [] (kept_skipped left_out name kind (Some reason))
LeavesOut left_out reason name kind old new (Err Memory) = Unit {0}
LeavesOut left_out reason name kind old new (Err TooDeep) = ⊥
LeavesOut left_out reason name kind old new (Err (Faulted site word)) = ⊥

-- the result of classifying an entry that is neither a file nor a directory
abbrev pub ClassifiesOther : Bool → Option Reason → OtherKind → List ℕ → Classified → Classified → Result (Unit {0}) OpenFault → Type 0
ClassifiesOther left_out reason what name old new result =
    LeavesOut left_out (unwrap_or reason (other_kind what)) name (Other what) old new result

-- the result of classifying one more entry: an error if the entry is too deep
abbrev pub ClassifiesEntry : Bool → FiltersModel → JobModel → EntryModel → Classified → Classified → Result (Unit {0}) OpenFault → Type 0
ClassifiesEntry left_out f j e old new (Ok _) =
    Gains old new (kept_file f j e) (kept_directory f j e) (skipped_entry left_out f j e) × (is_too_deep f j e ≡ false)
ClassifiesEntry left_out f j e old new (Err Memory) = Unit {0}
ClassifiesEntry left_out f j e old new (Err TooDeep) = is_too_deep f j e ≡ true
ClassifiesEntry left_out f j e old new (Err (Faulted site word)) = ⊥

-- the result of classifying all entries: those that stay and those that are skipped, in order, if none is too deep; an error if one is; or
-- a failed allocation
abbrev pub ClassifiesAll : Bool → FiltersModel → JobModel → List EntryModel → Result Classified OpenFault → Type 0
ClassifiesAll left_out f j es (Ok found) =
    (bytes_of found.files.items ≡ flat_map (kept_file f j) es) × (found.children.items ≡ flat_map (kept_directory f j) es)
    × (found.skipped.items ≡ flat_map (skipped_entry left_out f j) es) × (list_any (is_too_deep f j) es ≡ false)
ClassifiesAll left_out f j es (Err Memory) = Unit {0}
ClassifiesAll left_out f j es (Err TooDeep) = list_any (is_too_deep f j) es ≡ true
ClassifiesAll left_out f j es (Err (Faulted site word)) = ⊥
