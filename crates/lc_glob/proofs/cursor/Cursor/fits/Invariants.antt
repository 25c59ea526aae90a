use Rattle.std.proofs.Common.{◌↔◌, ◌+◌, ◌≤◌, length}
use Rattle.lc_glob.specs.{Fits.Fits, Steps.cost_at}
use Rattle.lc_glob.proofs.cursor.Cursor.fits.Given as goal

abbrev pub invariant-ends : goal.invariant-ends
invariant-ends g l =
    let tokens = g.E.Element.tokens_in in
    record {
      same : Fits (tokens l.self.tokens.now) l.self.segment.bytes.now ↔ Fits (tokens l.here.tokens.now) l.here.segment.bytes.now;
      cost : l.tests.made + cost_at tokens l.here ≤ l.initial.tests.made + cost_at tokens l.self;
    }

abbrev pub decreases-ends : goal.decreases-ends
decreases-ends g l = length (g.E.Element.tokens_in l.here.tokens.now)
