use Rattle.std.proofs.Common.{sym, subst}
use Rattle.lc_level.specs.Narrowing.{each_once, paths_in}
use Rattle.lc_level.proofs.{EachOnce.once_in_order, PathOrder.seen_in_order}
use Rattle.lc_tree.specs.ByteOrder.{AreInOrder}
use Rattle.lc_level.proofs.narrowing.only_paths.OnlyPaths.selection_in.Goals as goal

pub invariant_of-result : goal.invariant_of-result
invariant_of-result c =
    subst AreInOrder (sym c.in_ok-rests.ensures)
    (seen_in_order c.args.directory.now (each_once (paths_in c.args.self.now)) (once_in_order (paths_in c.args.self.now)))
