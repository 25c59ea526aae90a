use Rattle.std.proofs.Common.{◌≡◌, option_map, drop}
use Rattle.std.specs.Option.{option_or}
use Rattle.lc_walk.specs.Extension.{after_last_dot}
use Rattle.lc_walk.proofs.tally.extensions.extension.Given as goal

-- the last dot of all is the last one ahead, or else the last one so far
abbrev pub invariant-loop-i : goal.invariant-loop-i
invariant-loop-i l = after_last_dot l.rest ≡ option_or (after_last_dot (drop l.i l.rest)) (option_map (λ s. s.now) l.found)
