use denote.Param.Send.{sendable}
use Rattle.lc_walk.proofs.SentAndShared.{crosses}
use Rattle.lc_walk_tests.proofs.walk.rows.work_over.Goals as goal

pub work-requires-send-B-Pass : goal.work-requires-send-B-Pass
work-requires-send-B-Pass g c κs within = search (crosses, sendable)

pub work-requires-sync-B : goal.work-requires-sync-B
work-requires-sync-B g c κs within = search (crosses, sendable)

pub work-requires-in-Locked-sync-B : goal.work-requires-in-Locked-sync-B
work-requires-in-Locked-sync-B g c κs within = search (crosses, sendable)
