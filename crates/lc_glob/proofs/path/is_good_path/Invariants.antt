use Rattle.std.proofs.Common.{◌≡◌, length}
use Rattle.lc_glob.specs.Path.{is_good_path}
use Rattle.lc_glob.proofs.path.is_good_path.Given as goal

abbrev pub invariant-segments : goal.invariant-segments
invariant-segments l = is_good_path l.path ≡ is_good_path l.rest

abbrev pub decreases-segments : goal.decreases-segments
decreases-segments l = length l.rest
