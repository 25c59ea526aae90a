use Rattle.std.proofs.Common.{length}
use Rattle.lc_arguments.proofs.attributes.+count_before.Given as goal

abbrev pub decreases-count_before : goal.decreases-count_before
decreases-count_before l = length l.attributes.now
