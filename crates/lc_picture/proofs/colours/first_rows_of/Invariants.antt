use Rattle.std.proofs.Common.{◌≡◌, ◌++◌, drop, take}
use Rattle.lc_picture.specs.Colours.{first_rows_of}
use Rattle.lc_picture.proofs.colours.first_rows_of.Given as goal

abbrev pub invariant-loop-place : goal.invariant-loop-place
invariant-loop-place l = take l.place l.kinds ++ first_rows_of l.directory (drop l.place l.kinds) ≡ first_rows_of l.directory l.kinds
