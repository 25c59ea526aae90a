use Rattle.std.proofs.Common.{rules}
use Rattle.lc_level.proofs.CountedMore.{counted_next}
use Rattle.lc_level.proofs.level_reader.LevelReader.count.Goals as goal

pub loop-name-preserved : goal.loop-name-preserved
loop-name-preserved g c = (
  tt,
  tt,
  search rules,
  counted_next (g.T.Tree.gives c.args.self.now.tree.now) c.args.self.now.filters.now c.args.job.now c.loop-name.yielded c.in-Some.name
      _ c.loop-name.found c.count_named.new.found c.count_named.result c.in_ok-count_named.field-0 c.in_ok-count_named.was (search rules)
      c.count_named.ensures.counted,
)
