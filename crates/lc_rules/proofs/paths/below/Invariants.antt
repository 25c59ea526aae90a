use Rattle.std.proofs.Common.{◌≡◌}
use Rattle.lc_rules.specs.Verdicts.{below}
use Rattle.lc_rules.proofs.paths.below.Given as goal

abbrev pub invariant-depths : goal.invariant-depths
invariant-depths l = below l.fn.depth l.path ≡ below l.levels l.rest

abbrev pub decreases-depths : goal.decreases-depths
decreases-depths l = l.levels
