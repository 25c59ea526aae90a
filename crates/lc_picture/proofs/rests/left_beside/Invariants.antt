use Rattle.std.proofs.Common.{◌≡◌, drop}
use Rattle.lc_picture.specs.Rests.{left_beside}
use Rattle.lc_picture.proofs.rests.left_beside.Given as goal

abbrev pub invariant-loop-next : goal.invariant-loop-next
invariant-loop-next l = left_beside l.depth l.left (drop l.next-index l.after) ≡ left_beside l.depth l.fn.sums l.after
