-- The nodes of a tree in memory, and the node at a path.
use Rattle.std.specs.Prelude.{ℕ, List, [], ◌∷◌, Option, Some, None, Vec, find, option_map, option_and_then, bytes_eq}
use Rattle.std.specs.declared.alloc.Global.{Global}
use Rattle.lc_tree.specs.{Listing.EntryModel, Paths.names_of_path, declared.entry.Kind.{Kind, TheVariants.{File, Dir, Other}}}
use Rattle.lc_tree.specs.declared.node.Node.{Node, out-Node, TheOpen.Node-F}

-- what a node is in a listing
abbrev pub kind_within : Node-F Node → Kind
kind_within (Node-F.Dir entries) = Dir
kind_within Node-F.Closed = Dir
kind_within (Node-F.File bytes) = File
kind_within (Node-F.Failing bytes) = File
kind_within (Node-F.Other what) = Other what

abbrev pub kind_of : Node → Kind
kind_of node = kind_within (out-Node node)

-- an entry of a directory: a name and a node
abbrev pub Child : Type 0
Child = Vec ℕ Global × Node

-- the entry of a child in a listing
abbrev pub entry_of_child : Child → EntryModel
entry_of_child child = record { name = child.0.items; kind = kind_of child.1 }

-- the node of the first child with this name
abbrev pub child_among : List ℕ → List Child → Option Node
child_among name children = option_map (λ (c : Child). c.1) (find (λ (c : Child). bytes_eq c.0.items name) children)

-- the node of this name in a directory; any other node has none
abbrev pub child_within : List ℕ → Node-F Node → Option Node
child_within name (Node-F.Dir entries) = child_among name entries.items
child_within name Node-F.Closed = None
child_within name (Node-F.File bytes) = None
child_within name (Node-F.Failing bytes) = None
child_within name (Node-F.Other what) = None

abbrev pub child_of : List ℕ → Node → Option Node
child_of name node = child_within name (out-Node node)

-- the node that these names lead to, one after another
abbrev pub node_below : List (List ℕ) → Node → Option Node
node_below [] node = Some node
node_below (name ∷ names) node = option_and_then (λ (child : Node). node_below names child) (child_of name node)

-- the node at a path
abbrev pub node_at : Node → List ℕ → Option Node
node_at top path = node_below (names_of_path path) top
