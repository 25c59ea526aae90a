-- What a walk finds, stated without the walk: gitignore(5), PATTERN FORMAT, on files below a directory that is ignored.
use Rattle.std.specs.{Prelude.{◌≡◌, ◌⊎◌, ℕ, ◌<◌, true, List, [], ◌∷◌, length, Ok}, List.Contains}
use Rattle.lc_glob.specs.Path.{path_in}
use Rattle.lc_level.specs.{Answers.{Item, directory_item, name_of, Answers, Tree}, Job.JobModel, Level.{Fate, counted, failed, skipped}}
use Rattle.lc_level.specs.{Level.{faulted_level, level, fate_of, is_taken, child_job}, Narrowing.{part_of, absent_from}}
use Rattle.lc_level.specs.{RuleFiles.{RuleBytes, rule_bytes, extended}, Filters.FiltersModel}
use Rattle.lc_level.specs.declared.fault_word.FaultWord.TheVariants.{Absent}
use Rattle.lc_walk.specs.{Found.{Found, found_file, found_fault, found_directory, found_skipped}, RecursiveWalk.walk_of}

-- the directory of a job is listed, and its rule files are read, without an error. `items` is the listing, and `inside` is the job with
-- these rule files
pub record IsListed (j : JobModel) (a : Answers) (items : List Item) (inside : JobModel) : Type 0 where
  pub here : a.here ≡ Ok items
  pub bytes : RuleBytes
  pub read : rule_bytes j.ignore.no_ignore j.path items a ≡ Ok bytes
  pub is : inside ≡ extended j bytes

module _ (filters : FiltersModel) where
  -- the directory is listed, and this many of its entries are selected by the requested paths
  pub record HasEntries (j : JobModel) (a : Answers) (entries : ℕ) : Type 0 where
    pub items : List Item
    pub inside : JobModel
    pub listed : IsListed j a items inside
    pub many : entries ≡ length (part_of filters.only j.path items)

  -- the directory has a child directory of this name that the requested paths select, that is not `.git`, that the last matching rule
  -- does not ignore, and that the filters do not skip
  pub record WalksInto (j : JobModel) (a : Answers) (name : List ℕ) (inside : JobModel) : Type 0 where
    pub items : List Item
    pub listed : IsListed j a items inside
    pub has : Contains (part_of filters.only j.path items) (directory_item name)
    pub taken : is_taken filters inside name true ≡ true

  -- the walk descends from the directory of `j` along these names, each the name of a child directory; `k` is the job of the last
  abbrev pub LeadsTo : JobModel → Tree → List (List ℕ) → JobModel → Type 0
  LeadsTo j t [] k = j ≡ k
  LeadsTo j t (name ∷ place) k =
      (inside : JobModel) × WalksInto j (t []) name inside × LeadsTo (child_job inside name) (λ p. t (name ∷ p)) place k

  -- the directory has an entry of this name that the requested paths select. By its rule files and the filters, the entry has this fate
  pub record HasEntry (j : JobModel) (a : Answers) (name : List ℕ) (fate : Fate) : Type 0 where
    pub items : List Item
    pub inside : JobModel
    pub listed : IsListed j a items inside
    pub item : Item
    pub has : Contains (part_of filters.only j.path items) item
    pub named : name_of item ≡ name
    pub fate_is : fate_of filters inside item ≡ fate

  -- a path below the directory is requested, but none of its entries leads there; `rest` is that path relative to the directory
  pub record HasAbsent (j : JobModel) (a : Answers) (rest : List ℕ) : Type 0 where
    pub items : List Item
    pub inside : JobModel
    pub listed : IsListed j a items inside
    pub absent : Contains (absent_from filters.only j.path items) rest

  -- what a directory contributes: itself, with the number of its selected entries; its counted files; the errors of its files, of itself,
  -- or of absent paths; its skipped entries
  abbrev pub Gives : JobModel → Answers → Found → Type 0
  Gives j a (found_directory path entries) = (path ≡ j.path) × HasEntries j a entries
  Gives j a (found_file directory f) = (directory ≡ j.path) × HasEntry j a f.path (counted f)
  Gives j a (found_fault path word) =
      (level filters j a ≡ faulted_level path word)
      ⊎ ((name : List ℕ) × (path ≡ path_in j.path name) × HasEntry j a name (failed word))
      ⊎ ((rest : List ℕ) × (path ≡ path_in j.path rest) × (word ≡ Absent) × HasAbsent j a rest)
  Gives j a (found_skipped directory l) = (directory ≡ j.path) × HasEntry j a l.path (skipped l.kind l.reason)

  -- a directory that the walk reaches contributes `x`; this directory is fewer than `depth` levels below the top
  pub record IsFoundIn (depth : ℕ) (top : JobModel) (t : Tree) (x : Found) : Type 0 where
    pub place : List (List ℕ)
    pub shallow : length place < depth
    pub job : JobModel
    pub leads : LeadsTo top t place job
    pub gives : Gives job (t place) x

-- the recursive walk of a tree finds what the directories that it reaches contribute, and nothing else
abbrev pub FoundLaw : Type 0
FoundLaw =
    (filters : FiltersModel) (depth : ℕ) (top : JobModel) (t : Tree) (x : Found) →
    (Contains (walk_of filters depth top t) x → IsFoundIn filters depth top t x)
    × (IsFoundIn filters depth top t x → Contains (walk_of filters depth top t) x)
