use denote.Param.Send.{sendable}
use Rattle.std.proofs.Crossing as std
use Rattle.lc_level.proofs.SentAndShared as level
use Rattle.lc_level.proofs.level_reader.LevelReader.count_runs.Goals as goal

pub map_vec-requires-sync-F : goal.map_vec-requires-sync-F
map_vec-requires-sync-F g c κs within =
    let t = c.type_bounds.sync-T in
    search (level.crosses, sendable, std.crosses) depth 60 fits 20000
