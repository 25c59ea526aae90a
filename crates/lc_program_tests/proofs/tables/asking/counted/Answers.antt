use denote.Param.Send.{sendable}
use Rattle.lc_walk.proofs.SentAndShared.{crosses}
use Rattle.lc_program_tests.proofs.tables.asking.counted.Goals as goal

pub walk_on-requires-sync-B : goal.walk_on-requires-sync-B
walk_on-requires-sync-B g c κs within = search (crosses, sendable)
