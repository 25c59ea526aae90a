-- A tree in memory has one listing and one content for each path.
use Rattle.std.specs.Prelude.{◌≡◌, ℕ, List, Result}
use Rattle.lc_tree.specs.{Listing.EntryModel, MemTrees.{content_of, mem_lists}, Nodes.node_at, Trees.Content, declared.node.Node.Node}
use Rattle.lc_tree.specs.declared.read_fault.ReadFault.{ReadFault}

-- the content at a path of a tree in memory
abbrev pub content_at : Node → List ℕ → Content
content_at top path = content_of (node_at top path)

-- each path has only one result of listing: one listing, or one error
abbrev pub ListsOnce : Type 0
ListsOnce = (top : Node) (path : List ℕ) (a b : Result (List EntryModel) ReadFault) → mem_lists top path a → mem_lists top path b → a ≡ b
