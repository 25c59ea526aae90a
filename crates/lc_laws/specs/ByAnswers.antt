-- The explanation of a path by given answers: one state of a tree's directories, as far as an explanation asked for it.
use Rattle.std.specs.{Prelude.{◌≡◌, ℕ, Bool, List, [], ◌∷◌, ◌++◌, None, Result, Ok, Err}, List.Contains}
use Rattle.lc_paths.specs.Explanations.{Answers.MaySay, Explained.{Explanation, IsExplained}, OpenDirs.{OpenDirModel, open_dir}}
use Rattle.lc_paths.specs.declared.explaining.explain_options.ExplainOptions.{ExplainOptions}
use Rattle.lc_glob.specs.Path.{segments_of}
use Rattle.lc_level.specs.{Answers.{Item, Items, Answers, Tree, entries_of}, FaultLines.FaultLineModel, Job.JobModel, RuleFiles.RuleBytes}
use Rattle.lc_level.specs.{RuleFiles.rule_bytes, Filters.{FiltersModel, narrowed}, TopJob.top_job, TreeAnswers.MayAnswer}
use Rattle.lc_level.specs.WellFormed.{IsWellFormed}
use Rattle.lc_tree.specs.{Listing.EntryModel, Paths.names_of_path, Trees.{Listings, Contents}, declared.entry.Kind.{Kind, TheVariants.Dir}}
use Rattle.lc_walk.specs.FoundAt.{LeadsTo}

-- ---- an explanation

-- a directory is entered by the answers that a tree has for its place
abbrev pub EntersBy : Tree → JobModel → Result OpenDirModel FaultLineModel → Type 0
EntersBy u j entered = open_dir j (u (names_of_path j.path)) ≡ entered

-- a directory is entered by answers that the tree's listings and files may give
pub record EntersGiven (lists : List ℕ → Listings) (gives : List ℕ → Contents) (u : Tree) (j : JobModel)
    (entered : Result OpenDirModel FaultLineModel) : Type 0 where
  pub may : MayAnswer lists gives j.path (u (names_of_path j.path))
  pub well_formed : IsWellFormed (u (names_of_path j.path))
  pub enters : EntersBy u j entered

module _ (q : ExplainOptions) where
  -- the job with which an explanation begins; and its filters, for a whole tree
  abbrev pub top_asked : JobModel
  top_asked = top_job q.filters.now

  abbrev pub whole_asked : FiltersModel
  whole_asked = narrowed q.filters.now None

  -- `x` is the explanation of a path, if directories are entered by `Enters`
  abbrev pub SaysEntering : (JobModel → Result OpenDirModel FaultLineModel → Type 0) → List ℕ → Bool → Explanation → Type 0
  SaysEntering Enters path as_dir x = IsExplained Enters q.filters.now path as_dir x

  -- `x` is the explanation of a path by the answers of a tree
  abbrev pub SaysBy : Tree → List ℕ → Bool → Explanation → Type 0
  SaysBy u path as_dir x = SaysEntering (EntersBy u) path as_dir x

  -- `x` is the explanation of a path by some answers that a tree may give
  pub record IsSaidByAnswers (lists : List ℕ → Listings) (gives : List ℕ → Contents) (path : List ℕ) (as_dir : Bool) (x : Explanation)
      : Type 0 where
    pub answers : Tree
    pub says : SaysBy answers path as_dir x
    pub given : SaysEntering (EntersGiven lists gives answers) path as_dir x

-- each explanation that a path may have follows from some answers that the tree may give
abbrev pub SaidByAnswersLaw : (List ℕ → Listings) → (List ℕ → Contents) → Type 0
SaidByAnswersLaw lists gives =
    (q : ExplainOptions) (path : List ℕ) (as_dir : Bool) (x : Explanation) → MaySay lists gives q path as_dir x
    → IsSaidByAnswers q lists gives path as_dir x

-- ---- two states of a tree

-- what is read of a job's directory before its files are counted: its entries and the bytes of its rule files, or the first error
abbrev pub read_after : List Item → Result RuleBytes FaultLineModel → Result (List EntryModel × RuleBytes) FaultLineModel
read_after items (Ok files) = Ok (entries_of items, files)
read_after items (Err fault) = Err fault

abbrev pub read_of : JobModel → Answers → Items → Result (List EntryModel × RuleBytes) FaultLineModel
read_of j a (Ok items) = read_after items (rule_bytes j.ignore.no_ignore j.path items a)
read_of j a (Err word) = Err (record { path = j.path; word = word })

abbrev pub what_is_read : JobModel → Answers → Result (List EntryModel × RuleBytes) FaultLineModel
what_is_read j a = read_of j a a.here

-- the kind of a name in a path: a directory if other names follow it, or else `kind`
abbrev pub kind_before : Kind → List (List ℕ) → Kind
kind_before kind [] = kind
kind_before kind (next ∷ names) = Dir

module _ (s : FiltersModel) (top : JobModel) (t : Tree) where
  -- the same is read from both trees, of each directory on the way to a path to which names lead
  abbrev pub AgreeOnWay : Tree → List ℕ → Type 0
  AgreeOnWay u path =
      (place : List (List ℕ)) (name : List ℕ) (names : List (List ℕ)) (k : JobModel) → segments_of path ≡ place ++ name ∷ names
      → LeadsTo s top t place k → what_is_read k (t place) ≡ what_is_read k (u place)

  -- the tree has an entry with this path and kind: each directory on the way that is listed has the next name, the last as an entry of this
  -- kind, and any other as a directory
  abbrev pub IsEntryBy : List ℕ → Kind → Type 0
  IsEntryBy path kind =
      (place : List (List ℕ)) (name : List ℕ) (names : List (List ℕ)) (k : JobModel) (items : List Item)
      → segments_of path ≡ place ++ name ∷ names → LeadsTo s top t place k → (t place).here ≡ Ok items
      → Contains (entries_of items) (record { name = name; kind = kind_before kind names })
