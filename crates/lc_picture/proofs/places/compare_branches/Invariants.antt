use Rattle.std.proofs.Common.{◌≡◌, drop}
use Rattle.std.specs.Cmp.Lexicographic.{slice_cmp}
use Rattle.lc_picture.specs.Places.{place_cmp}
use Rattle.lc_picture.proofs.places.compare_branches.Given as goal

abbrev pub invariant-loop-level : goal.invariant-loop-level
invariant-loop-level l = slice_cmp place_cmp l.a l.b ≡ slice_cmp place_cmp (drop l.level l.a) (drop l.level l.b)
