use Rattle.std.proofs.Common.{length}
use Rattle.lc_paths.proofs.explaining.stack_cache.StackCache.nearest.Given as goal

abbrev pub decreases-names : goal.decreases-names
decreases-names l = length l.above
