-- The answers of the tree that a node stands for are some that a tree of memory may give.
use Rattle.std.proofs.Common.{◌≡◌, ℕ, true, List, [], ◌∷◌, ◌++◌, map, refl, sym, ◌∙◌, ap, subst, Option, Some, None, Result, Ok, Err}
use Rattle.std.proofs.{Common.codes, lemmas.Bool.and_parts}
use Rattle.std.specs.{Prelude.{IfOk, Vec, option_and_then}, declared.alloc.Global.Global, List.AllByRecursion}
use Rattle.lc_level.specs.{WellFormed.{listed_in, IsWellFormed}, Answers.{Item, entry_of, entries_of}, NodeTrees.{item_by, item_of}}
use Rattle.lc_level.specs.{NodeTrees.{listing_within, listing_at, told_items, items_at, tree_of_node}, RuleFiles.has_git}
use Rattle.lc_level.specs.{TreeAnswers.{MayHave, MayList, MayAnswer, items_of}, FileAnswers.{counted, read_as_rules}, FileReads.MayCount}
use Rattle.lc_level.specs.FileReads.{MayReadRules}
use Rattle.lc_level.proofs.{WellFormed.no_entries, FileAnswers.{may_count, may_read_rules}}
use Rattle.lc_glob.specs.Path.{is_good_name, path_in}
use Rattle.lc_tree.specs.{Listed.listed, Listing.{EntryModel, IsAnswerFor, have_good_names, HaveDistinctNames, IsListing}}
use Rattle.lc_tree.specs.{MemTrees.{content_of, ListsWithin, ListsNode, mem_lists, mem_gives}, Trees.{Content, GivesContent}, Nodes.Child}
use Rattle.lc_tree.specs.{Nodes.{child_among, child_of, child_within, kind_of, node_below, node_at}, Paths.names_of_path}
use Rattle.lc_tree.specs.declared.{entry.Kind.{Kind, TheVariants.{File, Dir, Other}}, node.Node.{Node, out-Node, TheOpen.Node-F}}
use Rattle.lc_tree.specs.declared.read_fault.ReadFault.{ReadFault, TheVariants.{Failed, Unnamed, BadName, Twice, TooMany, Memory}}
use Rattle.lc_tree.specs.ListedAnswers.{ItemsFor, listed_is, all_listed}
use Rattle.lc_tree.proofs.NodesIn.{node_in, each_found}
use Rattle.lc_tree.specs.Nodes as nodes

-- ---- the items of a directory are its entries

entry_by : (name : List ℕ) (file : Content) (kind : Kind) → entry_of (item_by name file kind) ≡ record { name = name; kind = kind }
entry_by name file File = refl
entry_by name file Dir = refl
entry_by name file (Other what) = refl

entries_are : (children : List Child) → entries_of (map item_of children) ≡ map nodes.entry_of_child children
entries_are [] = refl
entries_are (c ∷ cs) =
    ap (λ (e : EntryModel). e ∷ entries_of (map item_of cs)) (entry_by c.0.items (content_of (Some c.1)) (kind_of c.1))
    ∙ ap (λ l. nodes.entry_of_child c ∷ l) (entries_are cs)

-- the answer that has these items
abbrev answer_of : Result (List Item) ReadFault → Result (List EntryModel) ReadFault
answer_of (Ok items) = Ok (entries_of items)
answer_of (Err fault) = Err fault

answer_for : (children : List Child) (items : Result (List Item) ReadFault) → ItemsFor entry_of (map item_of children) items
    → IsAnswerFor (map nodes.entry_of_child children) (answer_of items)
answer_for children (Ok items) is = subst (λ (l : List EntryModel). IsAnswerFor l (Ok (entries_of items))) (entries_are children) is
answer_for children (Err fault) is = subst (λ (l : List EntryModel). IsAnswerFor l (Err fault)) (entries_are children) is

-- a node's listing is that of its items
lists_within : (node : Node-F Node) → ListsWithin node (answer_of (listing_within node))
lists_within (Node-F.Dir entries) =
    answer_for entries.items (listed entry_of (map item_of entries.items)) (listed_is entry_of (map item_of entries.items))
lists_within Node-F.Closed = refl
lists_within (Node-F.File bytes) = refl
lists_within (Node-F.Failing bytes) = refl
lists_within (Node-F.Other what) = refl

lists_node : (o : Option Node) → ListsNode o (answer_of (listing_at o))
lists_node None = refl
lists_node (Some node) = lists_within (out-Node node)

-- no node wants memory
no_memory_within : (node : Node-F Node) → ListsWithin node (Err Memory) → ⊥
no_memory_within (Node-F.Dir entries) l = l
no_memory_within Node-F.Closed l = absurd (cc l)
no_memory_within (Node-F.File bytes) l = absurd (cc l)
no_memory_within (Node-F.Failing bytes) l = absurd (cc l)
no_memory_within (Node-F.Other what) l = absurd (cc l)

no_memory : (o : Option Node) → ListsNode o (Err Memory) → ⊥
no_memory None l = absurd (cc l)
no_memory (Some node) l = no_memory_within (out-Node node) l

module _ (top : Node) (path : List ℕ) where
  -- ---- what a tree of memory may answer there

  -- of one entry, by the node at its path
  may_have : (name : List ℕ) (node : Node) (kind : Kind) → node_at top (path_in path name) ≡ Some node
      → MayHave (mem_lists top) (mem_gives top) path (item_by name (content_of (Some node)) kind)
  may_have name node File e = (
    subst (λ (o : Option Node). MayCount (GivesContent (content_of o)) (counted (content_of (Some node)))) (sym e)
        (may_count (content_of (Some node))),
    subst (λ (o : Option Node). MayReadRules (GivesContent (content_of o)) (read_as_rules (content_of (Some node)))) (sym e)
        (may_read_rules (content_of (Some node))),
  )
  may_have name node Dir e = tt
  may_have name node (Other what) e = tt

  -- of all of them, each of which is found by its name
  all_have : (children : List Child) → have_good_names (map nodes.entry_of_child children) ≡ true
      → AllByRecursion (λ (c : Child). option_and_then (child_of c.0.items) (node_at top path) ≡ Some c.1) children
      → AllByRecursion (MayHave (mem_lists top) (mem_gives top) path) (map item_of children)
  all_have [] good found = tt
  all_have (c ∷ cs) good found =
      let t = and_parts (is_good_name c.0.items) (have_good_names (map nodes.entry_of_child cs)) good in
      (may_have c.0.items c.1 (kind_of c.1) (node_in top path c.0.items t.0 ∙ found.0), all_have cs t.1 found.1)

  -- each entry of a directory there is found by its name
  found_there : (node : Node) (children : Vec Child Global) → node_at top path ≡ Some node → out-Node node ≡ Node-F.Dir children
      → HaveDistinctNames (map nodes.entry_of_child children.items)
      → AllByRecursion (λ (c : Child). option_and_then (child_of c.0.items) (node_at top path) ≡ Some c.1) children.items
  found_there node children e is distinct =
      subst (λ (o : Option Node). AllByRecursion (λ (c : Child). option_and_then (child_of c.0.items) o ≡ Some c.1) children.items) (sym e)
      (subst (λ (n : Node-F Node). AllByRecursion (λ (c : Child). child_within c.0.items n ≡ Some c.1) children.items) (sym is)
      (each_found children.items distinct))

  have_within : (node : Node) (n : Node-F Node) → node_at top path ≡ Some node → out-Node node ≡ n
      → IfOk (listing_within n) (AllByRecursion (MayHave (mem_lists top) (mem_gives top) path))
  have_within node (Node-F.Dir children) e is =
      all_listed entry_of (MayHave (mem_lists top) (mem_gives top) path) (map item_of children.items)
      (λ good distinct. all_have children.items (subst (λ l. have_good_names l ≡ true) (entries_are children.items) good)
      (found_there node children e is (subst HaveDistinctNames (entries_are children.items) distinct)))
  have_within node Node-F.Closed e is = tt
  have_within node (Node-F.File bytes) e is = tt
  have_within node (Node-F.Failing bytes) e is = tt
  have_within node (Node-F.Other what) e is = tt

  have_at : (o : Option Node) → node_at top path ≡ o → IfOk (listing_at o) (AllByRecursion (MayHave (mem_lists top) (mem_gives top) path))
  have_at None e = tt
  have_at (Some node) e = have_within node (out-Node node) e refl

  -- of the directory itself
  with_items : (items : Result (List Item) ReadFault) → mem_lists top path (answer_of items)
      → IfOk items (AllByRecursion (MayHave (mem_lists top) (mem_gives top) path))
      → MayList (mem_lists top) (mem_gives top) path (told_items items)
  with_items (Ok items) lists all = (lists, all)
  with_items (Err Failed) lists all = (Failed, refl, lists)
  with_items (Err Unnamed) lists all = (Unnamed, refl, lists)
  with_items (Err BadName) lists all = (BadName, refl, lists)
  with_items (Err Twice) lists all = (Twice, refl, lists)
  with_items (Err TooMany) lists all = (TooMany, refl, lists)
  with_items (Err Memory) lists all = absurd (no_memory (node_at top path) lists)

  may_list : MayList (mem_lists top) (mem_gives top) path (items_at (node_at top path))
  may_list = with_items (listing_at (node_at top path)) (lists_node (node_at top path)) (have_at (node_at top path) refl)

-- `.git` and `.git/info` are read in the top alone
git_there : (top : Node) (path : List ℕ) (items : List Item) → has_git path items ≡ true
    → MayList (mem_lists top) (mem_gives top) (codes ".git") (tree_of_node top (names_of_path path)).git
git_there top [] items t = may_list top (codes ".git")
git_there top (b ∷ bs) items t = cc

info_there : (top : Node) (path : List ℕ) (items : List Item) → has_git path items ≡ true
    → MayList (mem_lists top) (mem_gives top) (codes ".git/info") (tree_of_node top (names_of_path path)).info
info_there top [] items t = may_list top (codes ".git/info")
info_there top (b ∷ bs) items t = cc

-- the answers of the node's tree may be given
pub node_answers : (top : Node) (path : List ℕ) → MayAnswer (mem_lists top) (mem_gives top) path (tree_of_node top (names_of_path path))
node_answers top path = record {
  here = may_list top path;
  git = λ t. git_there top path (items_of (items_at (node_at top path))) t;
  info = λ t h. info_there top path (items_of (items_at (node_at top path))) t;
}

-- ---- its listings are listings

well_formed_by : (es : List EntryModel) (items : Result (List Item) ReadFault) → IsAnswerFor es (answer_of items)
    → IsListing (listed_in (told_items items))
well_formed_by es (Ok items) is = is.listing
well_formed_by es (Err fault) is = no_entries

well_formed_within : (node : Node-F Node) → IsListing (listed_in (told_items (listing_within node)))
well_formed_within (Node-F.Dir entries) =
    well_formed_by (map nodes.entry_of_child entries.items) (listing_within (Node-F.Dir entries)) (lists_within (Node-F.Dir entries))
well_formed_within Node-F.Closed = no_entries
well_formed_within (Node-F.File bytes) = no_entries
well_formed_within (Node-F.Failing bytes) = no_entries
well_formed_within (Node-F.Other what) = no_entries

listing_below : (o : Option Node) → IsListing (listed_in (items_at o))
listing_below None = no_entries
listing_below (Some node) = well_formed_within (out-Node node)

pub well_formed_at : (top : Node) (place : List (List ℕ)) → IsWellFormed (tree_of_node top place)
well_formed_at top place = record {
  here = listing_below (node_below place top);
  git = listing_below (node_below (place ++ codes ".git" ∷ []) top);
  info = listing_below (node_below (place ++ codes ".git" ∷ codes "info" ∷ []) top);
}
