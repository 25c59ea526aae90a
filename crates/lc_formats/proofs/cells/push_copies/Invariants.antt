use Rattle.std.proofs.Common.{◌≡◌, ◌++◌, replicate, string_bytes}
use Rattle.lc_formats.proofs.cells.push_copies.Given as goal

abbrev pub invariant-copies : goal.invariant-copies
invariant-copies l = string_bytes l.text ++ replicate l.rest l.c ≡ string_bytes l.initial.text ++ replicate l.count l.c

abbrev pub decreases-copies : goal.decreases-copies
decreases-copies l = l.rest
