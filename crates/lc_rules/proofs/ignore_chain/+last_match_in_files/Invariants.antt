use Rattle.std.proofs.Common.{length}
use Rattle.lc_rules.proofs.ignore_chain.+last_match_in_files.Given as goal

abbrev pub decreases-last_match_in_files : goal.decreases-last_match_in_files
decreases-last_match_in_files l = length l.files
