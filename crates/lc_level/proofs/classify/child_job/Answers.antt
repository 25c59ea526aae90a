use Rattle.std.proofs.Common.{sym}
use Rattle.lc_level.proofs.classify.child_job.Goals as goal

pub returns-then-is_too_deep : goal.returns-then-is_too_deep
returns-then-is_too_deep c = sym c.if-is_too_deep.ensures

pub returns-in-Ok : goal.returns-in-Ok
returns-in-Ok c = (c.in-Ok.ensures, sym c.if-is_too_deep.ensures)
