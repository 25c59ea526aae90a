use Rattle.std.proofs.Common.{rules}
use denote.Param.Send.{sendable}
use Rattle.lc_walk.proofs.{SentAndShared.crosses, AnswersOfClose.by_words}
use Rattle.lc_walk.proofs.walking.walk.Goals as goal

pub walk_on-requires-send-B-Pass : goal.walk_on-requires-send-B-Pass
walk_on-requires-send-B-Pass g c κs within = search (crosses, sendable)

pub walk_on-requires-sync-B : goal.walk_on-requires-sync-B
walk_on-requires-sync-B g c κs within = search (crosses, sendable)

pub returns : goal.returns
returns g c = by_words (g.T.Tree.lists c.args.tree.now) (g.T.Tree.gives c.args.tree.now) c.args.options.now _ (search rules)
