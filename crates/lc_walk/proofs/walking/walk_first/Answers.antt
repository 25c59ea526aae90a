use Rattle.std.proofs.Common.{arith}
use denote.Param.Send.{sendable}
use Rattle.lc_walk.proofs.{FewerWorkers.small_report, SentAndShared.crosses}
use Rattle.lc_walk.proofs.walking.walk_first.Goals as goal

pub walk_by-requires-send-B-Pass : goal.walk_by-requires-send-B-Pass
walk_by-requires-send-B-Pass g c κs within = search (crosses, sendable)

pub walk_by-requires-sync-B : goal.walk_by-requires-sync-B
walk_by-requires-sync-B g c κs within = search (crosses, sendable)

pub returns-in-Ok : goal.returns-in-Ok
returns-in-Ok g c =
    small_report (g.T.Tree.lists c.args.tree.now) (g.T.Tree.gives c.args.tree.now) c.args.options.now 1 1 c.in-Ok.report
    c.requires.limits.some_room c.requires.limits.some_thread c.in-Ok.ensures

pub walk_by-requires-then-few-options-send-B-Pass : goal.walk_by-requires-then-few-options-send-B-Pass
walk_by-requires-then-few-options-send-B-Pass g c κs within = search (crosses, sendable)

pub walk_by-requires-then-few-options-sync-B : goal.walk_by-requires-then-few-options-sync-B
walk_by-requires-then-few-options-sync-B g c κs within = search (crosses, sendable)

pub returns-in-Ok-walk_by : goal.returns-in-Ok-walk_by
returns-in-Ok-walk_by g c =
    small_report (g.T.Tree.lists c.args.tree.now) (g.T.Tree.gives c.args.tree.now) c.args.options.now c.args.few c.args.options.now.threads
    c.in-Ok-walk_by.report (omega (arith, c.if-few-options.true)) (omega arith) c.in-Ok-walk_by.ensures
