-- The tree in memory that a sketch describes.
use Rattle.std.specs.{Prelude.{◌≡◌, ℕ, List, [], ◌∷◌, map, find, option_map, option_and_then, Option, Some, None, bytes_eq}, Borrow.Bor}
use Rattle.lc_tree.specs.{Nodes.{Child, node_below}, declared.node.Node.{Node, out-Node, TheOpen.Node-F}}
use Rattle.lc_tests.specs.declared.sketch_table.Sketch.{Sketch, out-Sketch, TheOpen.Sketch-F}

-- an entry of a directory in a sketch: its name and its own sketch
abbrev pub Drawn : Type 0
Drawn = Bor (List ℕ) × Sketch

-- the sketch of the first entry with this name
abbrev pub sketch_among : List ℕ → List Drawn → Option Sketch
sketch_among name entries = option_map (λ (e : Drawn). e.1) (find (λ (e : Drawn). bytes_eq e.0.now name) entries)

abbrev pub sketch_within : List ℕ → Sketch-F Sketch → Option Sketch
sketch_within name (Sketch-F.Dir entries) = sketch_among name entries.now
sketch_within name Sketch-F.Closed = None
sketch_within name (Sketch-F.File bytes) = None
sketch_within name (Sketch-F.Failing bytes) = None
sketch_within name (Sketch-F.Other what) = None

-- the sketch that these names lead to, one after another
abbrev pub sketch_below : List (List ℕ) → Sketch → Option Sketch
sketch_below [] sketch = Some sketch
sketch_below (name ∷ names) sketch =
    option_and_then (λ (next : Sketch). sketch_below names next) (sketch_within name (out-Sketch sketch))

-- a node is of the kind that a sketch describes, with the bytes of a file, or the names of a directory's entries
abbrev pub HasWithin : Sketch-F Sketch → Node-F Node → Type 0
HasWithin (Sketch-F.Dir entries) (Node-F.Dir children) =
    map (λ (c : Child). c.0.items) children.items ≡ map (λ (e : Drawn). e.0.now) entries.now
HasWithin Sketch-F.Closed Node-F.Closed = Unit {0}
HasWithin (Sketch-F.File bytes) (Node-F.File held) = held.items ≡ bytes.now
HasWithin (Sketch-F.Failing bytes) (Node-F.Failing held) = held.items ≡ bytes.now
HasWithin (Sketch-F.Other what) (Node-F.Other is) = is ≡ what
HasWithin _ _ = ⊥

-- there is neither a sketch nor a node, or there is a node as the sketch describes it
abbrev pub Has : Option Sketch → Option Node → Type 0
Has None None = Unit {0}
Has None (Some node) = ⊥
Has (Some sketch) None = ⊥
Has (Some sketch) (Some node) = HasWithin (out-Sketch sketch) (out-Node node)

-- the node is the tree of a sketch: each list of names leads to what the sketch describes there
abbrev pub IsTreeOf : Sketch → Node → Type 0
IsTreeOf sketch node = (names : List (List ℕ)) → Has (sketch_below names sketch) (node_below names node)
