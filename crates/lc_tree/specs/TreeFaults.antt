-- The error of a directory whose entries make no listing.
use Rattle.lc_tree.specs.declared.{listing.ListingFault.ListingFault, read_fault.ReadFault.ReadFault}
use Rattle.lc_tree.specs.declared.listing.ListingFault.TheVariants as listing
use Rattle.lc_tree.specs.declared.read_fault.ReadFault.TheVariants as fault

-- the error of listing a directory whose entries make no listing for this reason
abbrev pub fault_of_listing : ListingFault → ReadFault
fault_of_listing listing.BadName = fault.BadName
fault_of_listing listing.Twice = fault.Twice
fault_of_listing listing.TooMany = fault.TooMany
fault_of_listing listing.Memory = fault.Memory
