use denote.Param.Send.{sendable}
use Rattle.std.proofs.Crossing as std
use Rattle.lc_rules.proofs.SentAndShared as rules
use Rattle.lc_walk.proofs.workers.run_all.Goals as goal

pub map_vec-requires-sync-F : goal.map_vec-requires-sync-F
map_vec-requires-sync-F g c κs within =
    let b = c.type_bounds.sync-B in let t = c.type_bounds.sync-T in let r = c.type_bounds.sync-R in
    search (rules.crosses, sendable, std.crosses) depth 60 fits 20000
