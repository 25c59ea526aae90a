use denote.Param.Send.{sendable}
use Rattle.std.proofs.Crossing as std
use Rattle.lc_walk.proofs.SentAndShared.{crosses}
use Rattle.lc_walk_tests.proofs.walk.no_posts.walk_without_posts.Goals as goal

pub walk_on-requires-send-B-Pass : goal.walk_on-requires-send-B-Pass
walk_on-requires-send-B-Pass g c κs within = search (crosses, sendable)

pub walk_on-requires-sync-B : goal.walk_on-requires-sync-B
walk_on-requires-sync-B g c κs within = search (crosses, sendable, std.crosses) depth 40 fits 5000
