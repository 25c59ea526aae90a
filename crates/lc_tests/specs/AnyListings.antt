-- A tree that may list anything.
use Rattle.std.specs.Prelude.{Ok, Err}
use Rattle.lc_tree.specs.{Listing.IsListing, Trees.Listings}

-- any listing, or any fault
abbrev pub AnyListing : Listings
AnyListing (Ok entries) = IsListing entries
AnyListing (Err fault) = Unit {0}
