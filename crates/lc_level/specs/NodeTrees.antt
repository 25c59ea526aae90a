-- The tree that a `Node` defines: the answers for each directory, as values.
use Rattle.std.specs.Prelude.{ℕ, List, [], ◌∷◌, ◌++◌, map, Option, Some, None, Result, Ok, Err, unwrap_or, codes}
use Rattle.lc_level.specs.{Answers.{Item, file_item, directory_item, other_item, entry_of, Items, Tree}, FileAnswers.counted}
use Rattle.lc_level.specs.{FileAnswers.read_as_rules, FaultWords.fault_word_of, declared.fault_word.FaultWord.TheVariants.Read}
use Rattle.lc_tree.specs.{Listed.listed, MemTrees.content_of, Trees.Content, Nodes.{Child, kind_of, node_below}}
use Rattle.lc_tree.specs.declared.{entry.Kind.{Kind, TheVariants.{File, Dir, Other}}, node.Node.{Node, out-Node, TheOpen.Node-F}}
use Rattle.lc_tree.specs.declared.read_fault.ReadFault.{ReadFault, TheVariants.Failed}

-- the item of an entry with this name and kind; if it is a file, `file` is its content
abbrev pub item_by : List ℕ → Content → Kind → Item
item_by name file File = file_item name (counted file) (read_as_rules file)
item_by name file Dir = directory_item name
item_by name file (Other what) = other_item name what

abbrev pub item_of : Child → Item
item_of child = item_by child.0.items (content_of (Some child.1)) (kind_of child.1)

-- a directory's entries in order of their names, or why they make no listing; any other node can't be listed
abbrev pub listing_within : Node-F Node → Result (List Item) ReadFault
listing_within (Node-F.Dir entries) = listed entry_of (map item_of entries.items)
listing_within Node-F.Closed = Err Failed
listing_within (Node-F.File bytes) = Err Failed
listing_within (Node-F.Failing bytes) = Err Failed
listing_within (Node-F.Other what) = Err Failed

abbrev pub listing_at : Option Node → Result (List Item) ReadFault
listing_at None = Err Failed
listing_at (Some node) = listing_within (out-Node node)

-- the items, or the word for the error of the listing, which is never a failed allocation
abbrev pub told_items : Result (List Item) ReadFault → Items
told_items (Ok items) = Ok items
told_items (Err fault) = Err (unwrap_or (fault_word_of fault) Read)

abbrev pub items_at : Option Node → Items
items_at node = told_items (listing_at node)

-- the answers for each directory below a node, by the names that lead to it from the node
abbrev pub tree_of_node : Node → Tree
tree_of_node top place = record {
  here = items_at (node_below place top);
  git = items_at (node_below (place ++ codes ".git" ∷ []) top);
  info = items_at (node_below (place ++ codes ".git" ∷ codes "info" ∷ []) top);
}
