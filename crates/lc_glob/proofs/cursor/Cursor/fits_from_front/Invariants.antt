use Rattle.std.proofs.Common.{◌+◌, ◌*◌, length}
use Rattle.lc_glob.proofs.Stepping.{span, StepsHold}
use Rattle.lc_glob.proofs.cursor.Cursor.fits_from_front.Given as goal

abbrev pub invariant-steps : goal.invariant-steps
invariant-steps g l = StepsHold g.E.Element.tokens_in l.self l.here l.star l.tests.made l.initial.tests.made

abbrev pub decreases-steps : goal.decreases-steps
decreases-steps g l =
    let tokens = g.E.Element.tokens_in in
    span tokens l.star (length l.self.segment.bytes.now) * (length (tokens l.self.tokens.now) + 1) + length (tokens l.here.tokens.now)
