use Rattle.std.proofs.Common.{◌≡◌, ◌+◌, drop}
use Rattle.lc_picture.specs.Strips.{strip_left, strip_number}
use Rattle.lc_picture.proofs.strips.added.Given as goal

abbrev pub invariant-loop-next : goal.invariant-loop-next
invariant-loop-next l =
    l.sum + strip_number l.by (strip_left l.depth (drop l.next-index l.after))
    ≡ l.number + strip_number l.by (strip_left l.depth l.after)
