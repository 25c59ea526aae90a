use Rattle.lc_glob.proofs.Matching.{match_decides}
use Rattle.lc_glob.proofs.pattern.is_match_decides.Goals as goal

pub returns : goal.returns
returns c = match_decides
