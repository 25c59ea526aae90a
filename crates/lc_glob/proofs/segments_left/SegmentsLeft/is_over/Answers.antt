use Rattle.lc_glob.proofs.Naming.{some_left}
use Rattle.lc_glob.proofs.segments_left.SegmentsLeft.is_over.Goals as goal

pub returns-in-Some : goal.returns-in-Some
returns-in-Some g c = some_left g.E.Element.separates _ _ c.in-Some.is
