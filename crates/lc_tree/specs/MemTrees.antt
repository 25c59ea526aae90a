-- What a tree in memory may return: one listing and one content for each path.
use Rattle.std.specs.Prelude.{◌≡◌, ℕ, true, false, List, [], take, drop, map, Option, Some, None, Err, IsTrue, IsFalse}
use Rattle.lc_io.specs.Reads.{Answer, gave, failed}
use Rattle.lc_tree.specs.{Listing.IsAnswerFor, Nodes.{entry_of_child, node_at}, Trees.{Listings, Contents, Content, GivesContent}}
use Rattle.lc_tree.specs.declared.node.Node.{Node, out-Node, TheOpen.Node-F}
use Rattle.lc_tree.specs.declared.read_fault.ReadFault.TheVariants as fault

-- what listing a node may return: the listing of a directory's entries, and for any other node the error that it can't be read
abbrev pub ListsWithin : Node-F Node → Listings
ListsWithin (Node-F.Dir entries) answer = IsAnswerFor (map entry_of_child entries.items) answer
ListsWithin Node-F.Closed answer = answer ≡ Err fault.Failed
ListsWithin (Node-F.File bytes) answer = answer ≡ Err fault.Failed
ListsWithin (Node-F.Failing bytes) answer = answer ≡ Err fault.Failed
ListsWithin (Node-F.Other what) answer = answer ≡ Err fault.Failed

abbrev pub ListsNode : Option Node → Listings
ListsNode None answer = answer ≡ Err fault.Failed
ListsNode (Some node) answer = ListsWithin (out-Node node) answer

-- the content of what can't be opened: a file whose first read fails
abbrev pub nothing : Content
nothing = record { bytes = []; fails = true }

abbrev pub content_within : Node-F Node → Content
content_within (Node-F.File bytes) = record { bytes = bytes.items; fails = false }
content_within (Node-F.Failing bytes) = record { bytes = bytes.items; fails = true }
content_within (Node-F.Dir entries) = nothing
content_within Node-F.Closed = nothing
content_within (Node-F.Other what) = nothing

abbrev pub content_of : Option Node → Content
content_of None = nothing
content_of (Some node) = content_within (out-Node node)

-- what one read may give of the remaining content: its first bytes, as many as the buffer holds; or a failure, if the file fails and no
-- byte is left
abbrev pub ReadsContent : Content → ℕ → Answer → Content → Type 0
ReadsContent old room (gave piece) new =
    (piece ≡ take room old.bytes) × (new ≡ record { bytes = drop room old.bytes; fails = old.fails }) × (old.bytes ≡ [] → IsFalse old.fails)
ReadsContent old room failed new = (old.bytes ≡ []) × IsTrue old.fails × (new ≡ old)

-- what listing the path of a tree in memory may return
abbrev pub mem_lists : Node → List ℕ → Listings
mem_lists top path = ListsNode (node_at top path)

abbrev pub mem_gives : Node → List ℕ → Contents
mem_gives top path = GivesContent (content_of (node_at top path))
