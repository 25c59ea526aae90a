use Rattle.std.proofs.Common.{◌≡◌, ◌-◌, length}
use Rattle.lc_paths.specs.Checks.CheckText.{file_verdict, IsClearTo}
use Rattle.lc_paths.proofs.checking.checker.Checker.ignoring_from.Given as goal

abbrev pub decreases-directories : goal.decreases-directories
decreases-directories l = length l.path - l.at

abbrev pub invariant-directories : goal.invariant-directories
invariant-directories l = record {
  rules : l.self.rules.now ≡ l.fn.self.rules.now;
  clear : IsClearTo (file_verdict l.fn.self.rules.now) l.path l.at;
}
