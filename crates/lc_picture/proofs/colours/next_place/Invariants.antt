use Rattle.std.proofs.Common.{◌≡◌, drop}
use Rattle.lc_picture.specs.Colours.{rows_from}
use Rattle.lc_picture.proofs.colours.next_place.Given as goal

abbrev pub invariant-loop-place : goal.invariant-loop-place
invariant-loop-place l = rows_from l.directory (drop l.place l.kinds) ≡ rows_from l.directory (drop l.start l.kinds)
