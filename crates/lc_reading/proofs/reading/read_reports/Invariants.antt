use Rattle.std.proofs.Common.{◌≡◌, [], length}
use Rattle.lc_reading.proofs.TextsRead.{TextsSoFar}
use Rattle.lc_reading.proofs.reading.read_reports.Given as goal

abbrev pub invariant-texts : goal.invariant-texts
invariant-texts l = TextsSoFar l.attributes l.text l.rest l.reports.items × (l.reports.items ≡ [] → l.rest ≡ l.text)

abbrev pub decreases-texts : goal.decreases-texts
decreases-texts l = length l.rest
