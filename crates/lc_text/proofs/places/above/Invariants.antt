use Rattle.std.proofs.Common.{◌≡◌, ◌≤◌, length}
use Rattle.lc_rules.specs.Verdicts.{below}
use Rattle.lc_text.proofs.places.above.Given as goal

abbrev pub invariant-depths : goal.invariant-depths
invariant-depths l = (below l.fn.depth l.path ≡ below l.levels l.rest) × (length l.rest ≤ length l.path)

abbrev pub decreases-depths : goal.decreases-depths
decreases-depths l = l.levels
