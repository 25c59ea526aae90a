-- Trees that give only one answer to each question.
use Rattle.std.specs.Prelude.{◌≡◌, ℕ, ◌<◌, ◌^◌, List, length, Result}
use Rattle.lc_census.specs.declared.line_count.Count.{Count}
use Rattle.lc_tree.specs.{Listing.EntryModel, MemTrees.{mem_lists, mem_gives}, Paths.names_of_path, OneAnswer.content_at, Trees.Listings}
use Rattle.lc_tree.specs.{Trees.Contents, declared.{node.Node.Node, read_fault.ReadFault.ReadFault}}
use Rattle.lc_level.specs.{FileReads.{MayCount, MayReadRules}, declared.fault_word.FaultWord.FaultWord, Answers.Answers, Job.JobModel}
use Rattle.lc_level.specs.{Level.level, NodeTrees.tree_of_node, Filters.FiltersModel, WellFormed.IsWellFormed, TreeAnswers.MayAnswer}

module _ (lists : List ℕ → Listings) (gives : List ℕ → Contents) where
  -- each path has only one listing, and each file has only one count and only one text as a rule file
  pub record GivesOne : Type 0 where
    pub listing : (path : List ℕ) (x y : Result (List EntryModel) ReadFault) → lists path x → lists path y → x ≡ y
    pub count : (path : List ℕ) (x y : Result Count FaultWord) → MayCount (gives path) x → MayCount (gives path) y → x ≡ y
    pub rules : (path : List ℕ) (x y : Result (List ℕ) FaultWord) → MayReadRules (gives path) x → MayReadRules (gives path) y → x ≡ y

  -- if a tree gives only one answer to each question, each directory has only one level
  abbrev pub OneLevelLaw : Type 0
  OneLevelLaw =
      GivesOne → (f : FiltersModel) (j : JobModel) (a b : Answers) → MayAnswer lists gives j.path a → MayAnswer lists gives j.path b
      → level f j a ≡ level f j b

-- each file of a tree in memory has under 2^47 bytes, the address space of a program on x86-64
abbrev pub FitsMemory : Node → Type 0
FitsMemory top = (path : List ℕ) → length (content_at top path).bytes < 2 ^ 47

-- if each file has under 2^47 bytes, a tree in memory gives only one answer to each question
abbrev pub MemoryLaw : Type 0
MemoryLaw = (top : Node) → FitsMemory top → GivesOne (mem_lists top) (mem_gives top)

-- the answers of `tree_of_node` are some that the tree in memory of the node may give
abbrev pub NodeAnswersLaw : Type 0
NodeAnswersLaw = (top : Node) (path : List ℕ) → MayAnswer (mem_lists top) (mem_gives top) path (tree_of_node top (names_of_path path))

-- if each file has under 2^47 bytes, all answers that the tree in memory may give make the level that the answers of `tree_of_node` make
abbrev pub NodeLevelsLaw : Type 0
NodeLevelsLaw =
    (top : Node) → FitsMemory top → (f : FiltersModel) (j : JobModel) (a : Answers)
    → MayAnswer (mem_lists top) (mem_gives top) j.path a
    → level f j a ≡ level f j (tree_of_node top (names_of_path j.path))

-- the names in each listing of `tree_of_node` are good, distinct and in order
abbrev pub NodeWellFormedLaw : Type 0
NodeWellFormedLaw = (top : Node) (place : List (List ℕ)) → IsWellFormed (tree_of_node top place)
