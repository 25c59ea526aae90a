use Rattle.std.proofs.Common.{length}
use Rattle.lc_arguments.proofs.other_tools.pair_meant.Given as goal

abbrev pub decreases-words : goal.decreases-words
decreases-words g l = length l.left
