use Rattle.std.proofs.Common.{◌≡◌, length}
use Rattle.lc_text.specs.PathLines.{after_dot}
use Rattle.lc_text.proofs.path_line.after_dot.Given as goal

abbrev pub invariant-dots : goal.invariant-dots
invariant-dots l = after_dot l.initial.rest ≡ after_dot l.rest

abbrev pub decreases-dots : goal.decreases-dots
decreases-dots l = length l.rest
