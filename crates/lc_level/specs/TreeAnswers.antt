-- Which answers for a directory a tree may give, by what its calls may answer.
use Rattle.std.specs.{Prelude.{◌≡◌, ℕ, true, List, [], Some, Ok, Err, codes}, List.AllByRecursion}
use Rattle.lc_level.specs.{Answers.{Item, file_item, directory_item, other_item, Items, Answers, entries_of}, RuleFiles.has_directory}
use Rattle.lc_level.specs.{RuleFiles.has_git, FaultWords.fault_word_of, FileReads.{MayCount, MayReadRules}}
use Rattle.lc_level.specs.declared.fault_word.FaultWord.{FaultWord}
use Rattle.lc_glob.specs.Path.{path_in}
use Rattle.lc_tree.specs.{Trees.{Listings, Contents}, declared.read_fault.ReadFault.ReadFault}

-- the items, if there are any
abbrev pub items_of : Items → List Item
items_of (Ok items) = items
items_of (Err word) = []

-- a listing may return an error that has this word
abbrev pub FailsBy : Listings → FaultWord → Type 0
FailsBy may word = (fault : ReadFault) × (fault_word_of fault ≡ Some word) × may (Err fault)

-- `lists` and `gives` say what the listings and the files of a tree may answer at each path
module _ (lists : List ℕ → Listings) (gives : List ℕ → Contents) where
  -- an item of the directory at a path has results that its file may give
  abbrev pub MayHave : List ℕ → Item → Type 0
  MayHave path (file_item name counted rules) = MayCount (gives (path_in path name)) counted
      × MayReadRules (gives (path_in path name)) rules
  MayHave path (directory_item name) = Unit {0}
  MayHave path (other_item name what) = Unit {0}

  abbrev pub MayList : List ℕ → Items → Type 0
  MayList path (Ok items) = lists path (Ok (entries_of items)) × AllByRecursion (MayHave path) items
  MayList path (Err word) = FailsBy (lists path) word

  -- the tree may give these answers for the directory at a path; those for `.git` and `.git/info` matter only if the top has them
  pub record MayAnswer (path : List ℕ) (a : Answers) : Type 0 where
    pub here : MayList path a.here
    pub git : has_git path (items_of a.here) ≡ true → MayList (codes ".git") a.git
    pub info : has_git path (items_of a.here) ≡ true → has_directory (codes "info") (items_of a.git) ≡ true
        → MayList (codes ".git/info") a.info
