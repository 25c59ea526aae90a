-- What is not listed by names: the proof of the law of a tree, which is read from here.
use Rattle.std.proofs.Common.{inl, inr}
use Rattle.lc_tree.specs.{Named.{AreAmong, NoNames, NoLooks, ListsNamed}, Trees.Listings}

-- a tree without names lists nothing by names
pub nothing_named : (lists : Listings) → AreAmong (ListsNamed NoNames NoLooks) lists
nothing_named lists answer (inl by) = absurd by.1
nothing_named lists answer (inr by) = absurd by.1
