-- The tree of a `Node`, computed on a small node.
use Rattle.std.specs.Prelude.{◌≡◌, ℕ, ◌^◌, nat_lt, true, List, [], ◌∷◌, ◌++◌, length, map, Vec, Ok, Err, refl, codes}
use Rattle.std.specs.declared.alloc.Global.{Global}
use Rattle.std.proofs.{Math.Nat.le_refl, lemmas.Bool.ltb-true}
use denote.RawPtr.{null_ptr}
use Rattle.lc_census.specs.declared.line_count.Eol.TheVariants.{Lf}
use Rattle.lc_level.specs.{Answers.{Item, file_item, directory_item, other_item}, Level.{named_git, by_rule, by_attribute, other_kind}}
use Rattle.lc_level.specs.Level.{SkippedLineModel, Level, faulted_level, listed_level, level, counted_in, failed_in, walked_in}
use Rattle.lc_level.specs.{Level.skipped_in, NodeTrees.tree_of_node, Filters.{FiltersModel, leaving_out, no_filters}, TopJob.top_job}
use Rattle.lc_level.specs.{FileAnswers.census, declared.fault_word.FaultWord.TheVariants.{Read, Name}}
use Rattle.lc_rules.specs.declared.rule_source.RuleSource.TheVariants.{Gitignore}
use Rattle.lc_tree.specs.{Nodes.Child, declared.entry.{Kind.TheVariants.{File, Other}, OtherKind.TheVariants.Special}}
use Rattle.lc_tree.specs.declared.node.Node.{Node, roll-Node, TheOpen.Node-F}

-- a vector of these elements
abbrev pub vec : {X : Type 0} → Global → (xs : List X) → nat_lt (length xs) (2 ^ 63) ≡ true → Vec X Global
vec alloc xs short = record {
  items = xs;
  ptr = null_ptr;
  len = length xs;
  cap = length xs;
  alloc = alloc;
  ok = (refl, le_refl (length xs));
  small = ltb-true (length xs) (2 ^ 63) short;
}

module _ (alloc : Global) where
  abbrev pub rule_file : Child
  rule_file = (vec alloc (codes ".gitignore") refl, roll-Node (Node-F.File (vec alloc (codes "*.o\n") refl)))

  abbrev pub attribute_file : Child
  attribute_file = (vec alloc (codes ".gitattributes") refl, roll-Node (Node-F.File (vec alloc (codes "s export-ignore\n") refl)))

  -- a file `.git`, as a linked working tree has
  abbrev pub git_file : Child
  git_file = (vec alloc (codes ".git") refl, roll-Node (Node-F.File (vec alloc (codes "x") refl)))

  abbrev pub file : Child
  file = (vec alloc (codes "c") refl, roll-Node (Node-F.File (vec alloc (codes "one\n") refl)))

  abbrev pub ignored_file : Child
  ignored_file = (vec alloc (codes "a.o") refl, roll-Node (Node-F.File (vec alloc (codes "x") refl)))

  abbrev pub unexported_file : Child
  unexported_file = (vec alloc (codes "s") refl, roll-Node (Node-F.File (vec alloc (codes "x") refl)))

  abbrev pub link : Child
  link = (vec alloc (codes "l") refl, roll-Node (Node-F.Other Special))

  abbrev pub failing_file : Child
  failing_file = (vec alloc (codes "e") refl, roll-Node (Node-F.Failing (vec alloc (codes "x") refl)))

  abbrev pub closed : Child
  closed = (vec alloc (codes "b") refl, roll-Node Node-F.Closed)

  abbrev pub bad_name : Child
  bad_name = (vec alloc (codes "x/y") refl, roll-Node (Node-F.Other Special))

  abbrev pub with_bad_name : Child
  with_bad_name = (vec alloc (codes "d") refl, roll-Node (Node-F.Dir (vec alloc (bad_name ∷ []) refl)))

  -- the entries of the small directory, in no order; the bad name is that of an entry of its directory `d`
  abbrev pub entries : List Child
  entries =
      file ∷ with_bad_name ∷ closed ∷ rule_file ∷ failing_file ∷ ignored_file ∷ link ∷ attribute_file ∷ unexported_file ∷ git_file ∷ []

  abbrev pub small_node : Node
  small_node = roll-Node (Node-F.Dir (vec alloc entries refl))

-- the item of a file of these bytes
abbrev pub whole_file : List ℕ → List ℕ → Item
whole_file name bytes = file_item name (Ok (census bytes)) (Ok bytes)

-- the items of that directory, in order of their names
abbrev pub small_items : List Item
small_items =
    whole_file (codes ".git") (codes "x") ∷ whole_file (codes ".gitattributes") (codes "s export-ignore\n")
    ∷ whole_file (codes ".gitignore") (codes "*.o\n") ∷ whole_file (codes "a.o") (codes "x") ∷ directory_item (codes "b")
    ∷ whole_file (codes "c") (codes "one\n") ∷ directory_item (codes "d") ∷ file_item (codes "e") (Err Read) (Err Read)
    ∷ other_item (codes "l") Special ∷ whole_file (codes "s") (codes "x") ∷ []

-- the names of a level's counted files, of its files with errors, and of its child directories; and its skipped entries
pub record Names : Type 0 where
  pub files : List (List ℕ)
  pub faults : List (List ℕ)
  pub children : List (List ℕ)
  pub outside : List SkippedLineModel

abbrev pub names_in : Level → Names
names_in (faulted_level path word) = record { files = []; faults = []; children = []; outside = [] }
names_in (listed_level fates absent) = record {
  files = map (λ f. f.path) (counted_in fates);
  faults = map (λ f. f.path) (failed_in fates);
  children = map (λ c. c.0) (walked_in fates);
  outside = skipped_in fates;
}

-- a tree as it is, and as git exports it
abbrev pub as_it_is : FiltersModel
as_it_is = no_filters

abbrev pub exported : FiltersModel
exported = leaving_out no_filters (codes "export-ignore" ∷ [])

-- the names of the level of the small directory, by these filters
abbrev pub small_names : Global → FiltersModel → Names
small_names alloc f = names_in (level f (top_job f) (tree_of_node (small_node alloc) []))

-- the entries of the small directory that are skipped with either filters
abbrev pub small_outside : List SkippedLineModel
small_outside =
    record { path = codes ".git"; kind = File; reason = named_git }
    ∷ record { path = codes "a.o"; kind = File; reason = by_rule (Gitignore 0) 1 }
    ∷ record { path = codes "l"; kind = Other Special; reason = other_kind Special } ∷ []

abbrev pub small_as_it_is : Names
small_as_it_is = record {
  files = codes ".gitattributes" ∷ codes ".gitignore" ∷ codes "c" ∷ codes "s" ∷ [];
  faults = codes "e" ∷ [];
  children = codes "b" ∷ codes "d" ∷ [];
  outside = small_outside;
}

-- a directory's entries are in the order of their names; the file that fails has an error; `.git`, the ignored file and the link are
-- skipped, and on export also what has the attribute `export-ignore`; a closed directory, and one with a bad name in it, can't be listed
pub record LevelExamplesHold (alloc : Global) : Type 0 where
  pub top : (tree_of_node (small_node alloc) []).here ≡ Ok small_items
  pub count : census (codes "one\n") ≡ record { lines = 1; blank = 0; bytes = 4; eol = Lf }
  pub names : small_names alloc as_it_is ≡ small_as_it_is
  pub unexported : (small_names alloc exported).outside
      ≡ small_outside ++ record { path = codes "s"; kind = File; reason = by_attribute (codes "export-ignore") } ∷ []
  pub closed_there : (tree_of_node (small_node alloc) (codes "b" ∷ [])).here ≡ Err Read
  pub bad_name_there : (tree_of_node (small_node alloc) (codes "d" ∷ [])).here ≡ Err Name
  pub none_there : (tree_of_node (small_node alloc) (codes "f" ∷ [])).here ≡ Err Read
