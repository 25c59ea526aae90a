-- A tree of memory answers in one way.
use Rattle.std.proofs.Common.{◌≡◌, Bool, List, Result, Ok, Err, Option, Some, None, IsTrue, IsFalse, refl, sym, ◌∙◌, ap, arith}
use Rattle.std.proofs.lemmas.List.Sorted.{IsPermutation-sym, Contains-permutation, length_permutation}
use Rattle.lc_tree.specs.{Listing.{EntryModel, IsAnswerFor, IsListingOf, have_good_names}, MemTrees.{ListsWithin, ListsNode}}
use Rattle.lc_tree.specs.declared.read_fault.ReadFault.{ReadFault, TheVariants.{Failed, Unnamed, BadName, Twice, TooMany, Memory}}
use Rattle.lc_tree.specs.{declared.node.Node.{Node, out-Node, TheOpen.Node-F}, MovedEntries.{good_names_moved, distinct_from_sorted}}
use Rattle.lc_tree.proofs.OneOrder.{one_order}

one_listing : (es a b : List EntryModel) → IsListingOf es a → IsListingOf es b → a ≡ b
one_listing es a b first second =
    let back = IsPermutation-sym es a first.entries in
    let back' = IsPermutation-sym es b second.entries in
    one_order (λ (e : EntryModel). e.name) a b first.listing.order second.listing.order
    (λ z has. Contains-permutation es b z second.entries (Contains-permutation a es z back has))
    (λ z has. Contains-permutation es a z first.entries (Contains-permutation b es z back' has))

-- nothing is true and false
pub both : (b : Bool) → IsTrue b → IsFalse b → ⊥
both b is not = let e = sym is ∙ not in cc

-- the entries of a listing have good names, distinct ones, and are few
good : (es a : List EntryModel) → IsListingOf es a → IsTrue (have_good_names es)
good es a is = good_names_moved a es (IsPermutation-sym es a is.entries) is.listing.good

one_answer : (es : List EntryModel) (a b : Result (List EntryModel) ReadFault) → IsAnswerFor es a → IsAnswerFor es b → a ≡ b
one_answer es (Err Failed) b p q = absurd p
one_answer es (Err Unnamed) b p q = absurd p
one_answer es (Err Memory) b p q = absurd p
one_answer es a (Err Failed) p q = absurd q
one_answer es a (Err Unnamed) p q = absurd q
one_answer es a (Err Memory) p q = absurd q
one_answer es (Ok a) (Ok b) p q = ap Ok (one_listing es a b p q)
one_answer es (Ok a) (Err BadName) p q = absurd (both (have_good_names es) (good es a p) q)
one_answer es (Ok a) (Err Twice) p q = absurd (q.1 (distinct_from_sorted es a p.entries p.listing.order))
one_answer es (Ok a) (Err TooMany) p q = absurd (omega (arith, p.listing.few, q.2, length_permutation es a p.entries))
one_answer es (Err BadName) (Ok b) p q = absurd (both (have_good_names es) (good es b q) p)
one_answer es (Err BadName) (Err BadName) p q = refl
one_answer es (Err BadName) (Err Twice) p q = absurd (both (have_good_names es) q.0 p)
one_answer es (Err BadName) (Err TooMany) p q = absurd (both (have_good_names es) q.0 p)
one_answer es (Err Twice) (Ok b) p q = absurd (p.1 (distinct_from_sorted es b q.entries q.listing.order))
one_answer es (Err Twice) (Err BadName) p q = absurd (both (have_good_names es) p.0 q)
one_answer es (Err Twice) (Err Twice) p q = refl
one_answer es (Err Twice) (Err TooMany) p q = absurd (p.1 q.1)
one_answer es (Err TooMany) (Ok b) p q = absurd (omega (arith, q.listing.few, p.2, length_permutation es b q.entries))
one_answer es (Err TooMany) (Err BadName) p q = absurd (both (have_good_names es) p.0 q)
one_answer es (Err TooMany) (Err Twice) p q = absurd (q.1 p.1)
one_answer es (Err TooMany) (Err TooMany) p q = refl

once_within : (node : Node-F Node) (a b : Result (List EntryModel) ReadFault) → ListsWithin node a → ListsWithin node b → a ≡ b
once_within (Node-F.Dir entries) a b p q = one_answer _ a b p q
once_within Node-F.Closed a b p q = p ∙ sym q
once_within (Node-F.File bytes) a b p q = p ∙ sym q
once_within (Node-F.Failing bytes) a b p q = p ∙ sym q
once_within (Node-F.Other what) a b p q = p ∙ sym q

-- a node is listed in one way
pub lists_once : (node : Option Node) (a b : Result (List EntryModel) ReadFault) → ListsNode node a → ListsNode node b → a ≡ b
lists_once None a b p q = p ∙ sym q
lists_once (Some node) a b p q = once_within (out-Node node) a b p q
