use Rattle.lc_laws.proofs.IncludedOnes.{included_entries}
use Rattle.lc_laws.proofs.laws.errors_and_skipped_entries_are_those_of_included_files.Goals as goal

pub returns : goal.returns
returns c = included_entries c.all_that_is_found_is_given.ensures
