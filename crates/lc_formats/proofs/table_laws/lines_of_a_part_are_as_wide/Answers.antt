use Rattle.lc_formats.proofs.{ListingWidths.listing_law, RowWidths.{counts_law, summary_law}}
use Rattle.lc_formats.proofs.table_laws.lines_of_a_part_are_as_wide.Goals as goal

pub returns-clause-summary : goal.returns-clause-summary
returns-clause-summary c = summary_law

pub returns-clause-counts : goal.returns-clause-counts
returns-clause-counts c = counts_law

pub returns-clause-listing : goal.returns-clause-listing
returns-clause-listing c = listing_law
