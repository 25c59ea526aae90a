use Rattle.std.proofs.Common.{sym, ◌∙◌}
use Rattle.lc_level.proofs.PartsJoined.{parts_counted}
use Rattle.lc_level.proofs.level_reader.LevelReader.count_side_by_side.Goals as goal

pub returns : goal.returns
returns g c =
    parts_counted (g.T.Tree.gives c.args.self.now.tree.now) c.args.self.now.filters.now c.args.job.now c.args.names.items c.in_ok-runs.runs.items
    c.in_ok-counted.counted.items c.args.absent.items c.in_ok-found.found c.in_ok-runs.ensures.all
    (sym c.in_ok-counted.counted.ok.0 ∙ c.in_ok-counted.ensures.all ∙ c.in_ok-runs.runs.ok.0) c.in_ok-counted.ensures.each
    c.in_ok-found.ensures
