use Rattle.std.proofs.Common.{rules}
use Rattle.lc_level.proofs.RestFiles.{rest_counted}
use Rattle.lc_level.proofs.level_reader.LevelReader.count_undivided.Goals as goal

pub returns : goal.returns
returns g c =
    rest_counted (g.T.Tree.gives c.args.self.now.tree.now) c.args.self.now.filters.now c.args.job.now c.args.names.items
    c.in_ok-found.rest.items c.args.absent.items c.in_ok-found.found c.in_ok-later.field-0 c.append.new.self
    c.in_ok-found.ensures.some (search rules) c.in_ok-append.ensures.files c.in_ok-append.ensures.faults
