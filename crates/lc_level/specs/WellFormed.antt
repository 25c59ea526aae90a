-- Answers whose listings are well formed.
use Rattle.std.specs.Prelude.{List, [], Ok, Err}
use Rattle.lc_tree.specs.Listing.{EntryModel, IsListing}
use Rattle.lc_level.specs.Answers.{Answers, Items, entries_of}

abbrev pub listed_in : Items → List EntryModel
listed_in (Ok items) = entries_of items
listed_in (Err word) = []

-- the names of the directory, of `.git` and of `.git/info` are good, distinct and in order
pub record IsWellFormed (a : Answers) : Type 0 where
  pub here : IsListing (listed_in a.here)
  pub git : IsListing (listed_in a.git)
  pub info : IsListing (listed_in a.info)
