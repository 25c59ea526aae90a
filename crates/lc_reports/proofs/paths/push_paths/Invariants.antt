use Rattle.std.proofs.Common.{◌≡◌, ◌++◌, length, map}
use Rattle.lc_reports.proofs.paths.push_paths.Given as goal

abbrev pub invariant-files : goal.invariant-files
invariant-files l = l.paths.items ++ map (λ f. f.path) l.rest ≡ l.fn.paths.items ++ map (λ f. f.path) l.files

abbrev pub decreases-files : goal.decreases-files
decreases-files l = length l.rest
