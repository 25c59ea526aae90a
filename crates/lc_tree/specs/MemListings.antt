-- The listings of a tree in memory: the proof of the law of a tree, which is read from here.
use Rattle.std.proofs.Common.{List, map, Result, Ok, Err, Option, Some, None, refl}
use Rattle.lc_tree.specs.{Listed.listed, Listing.{EntryModel, IsAnswerFor}, MemTrees.{ListsWithin, ListsNode}, Nodes.Child}
use Rattle.lc_tree.specs.{Nodes.entry_of_child, Trees.{TellsSome, unread}, declared.node.Node.{Node, out-Node, TheOpen.Node-F}}
use Rattle.lc_tree.specs.declared.read_fault.ReadFault.{ReadFault, TheVariants.{Failed, Unnamed, BadName, Twice, TooMany, Memory}}
use Rattle.lc_tree.specs.ListedAnswers.{ItemsFor, listed_is}

-- an answer for entries is no failed allocation
told : (es : List EntryModel) (answer : Result (List EntryModel) ReadFault) → IsAnswerFor es answer → TellsSome (IsAnswerFor es)
told es (Ok entries) is = (Ok entries, is.listing, is)
told es (Err Failed) is = absurd is
told es (Err Unnamed) is = absurd is
told es (Err BadName) is = (Err BadName, tt, is)
told es (Err Twice) is = (Err Twice, tt, is)
told es (Err TooMany) is = (Err TooMany, tt, is)
told es (Err Memory) is = absurd is

-- entries have one, by listing them
some_answer : (children : List Child) → TellsSome (IsAnswerFor (map entry_of_child children))
some_answer children = at (listed entry_of_child children) (listed_is entry_of_child children)
  where
    at : (r : Result (List Child) ReadFault) → ItemsFor entry_of_child children r → TellsSome (IsAnswerFor (map entry_of_child children))
    at (Ok found) is = told (map entry_of_child children) (Ok (map entry_of_child found)) is
    at (Err fault) is = told (map entry_of_child children) (Err fault) is

some_within : (node : Node-F Node) → TellsSome (ListsWithin node)
some_within (Node-F.Dir entries) = some_answer entries.items
some_within Node-F.Closed = (unread, tt, refl)
some_within (Node-F.File bytes) = (unread, tt, refl)
some_within (Node-F.Failing bytes) = (unread, tt, refl)
some_within (Node-F.Other what) = (unread, tt, refl)

-- what is at a path, if anything, may be listed in some way
pub tells_some : (node : Option Node) → TellsSome (ListsNode node)
tells_some None = (unread, tt, refl)
tells_some (Some node) = some_within (out-Node node)
