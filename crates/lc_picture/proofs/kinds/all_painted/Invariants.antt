use Rattle.std.proofs.Common.{◌≡◌, ◌++◌, drop}
use Rattle.lc_picture.specs.Kinds.{all_painted}
use Rattle.lc_picture.proofs.kinds.all_painted.Given as goal

abbrev pub invariant-loop-index : goal.invariant-loop-index
invariant-loop-index l =
    l.made.items ++ all_painted l.chart l.by l.begins l.index (drop l.index l.boxes) ≡ all_painted l.chart l.by l.begins 0 l.boxes
