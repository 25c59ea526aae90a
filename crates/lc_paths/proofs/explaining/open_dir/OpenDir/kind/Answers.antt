use Rattle.std.proofs.Common.{sym, subst}
use Rattle.lc_tree.specs.Listing.{IsListing}
use Rattle.lc_paths.proofs.explaining.open_dir.OpenDir.kind.Goals as goal

pub entry_named-requires : goal.entry_named-requires
entry_named-requires c = subst IsListing (sym c.deref.ensures.value) c.self.invariant
