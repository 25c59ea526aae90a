use Rattle.std.proofs.Common.{◌≡◌, ◌++◌, drop}
use Rattle.lc_picture.specs.Chains.{joined, joined_from}
use Rattle.lc_picture.proofs.chains.joined.Given as goal

abbrev pub invariant-loop-index : goal.invariant-loop-index
invariant-loop-index l =
    l.made.items ++ joined_from l.by l.least l.depths.items l.start (drop l.index l.boxes) ≡ joined l.by l.least l.boxes
