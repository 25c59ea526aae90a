use Rattle.std.proofs.Common.{length}
use Rattle.lc_rules.proofs.attr_chain.+decide_by_files.Given as goal

abbrev pub decreases-decide_by_files : goal.decreases-decide_by_files
decreases-decide_by_files l = length l.files
