use Rattle.std.proofs.Common.{◌==◌}
use Rattle.lc_glob.proofs.Naming.{some_left}
use Rattle.lc_glob.proofs.path_segment.PathLeft.is_over.Goals as goal

pub returns-in-Some : goal.returns-in-Some
returns-in-Some c = some_left (λ b. b == 47) _ _ c.in-Some.is
