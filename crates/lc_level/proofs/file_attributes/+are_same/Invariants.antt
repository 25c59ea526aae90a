use Rattle.std.proofs.Common.{length}
use Rattle.lc_level.proofs.file_attributes.+are_same.Given as goal

abbrev pub decreases-are_same : goal.decreases-are_same
decreases-are_same l = length l.owned.now
