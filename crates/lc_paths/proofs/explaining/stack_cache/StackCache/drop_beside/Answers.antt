use Rattle.std.proofs.Common.{sym, subst}
use Rattle.lc_paths.specs.Explanations.{OpenDirs.DirStacks, DirStacks.AreFirstOf}
use Rattle.lc_paths.proofs.Explanations.StackCaching.{none_first, first_more}
use Rattle.lc_paths.proofs.explaining.stack_cache.StackCache.drop_beside.Goals as goal

pub loop-count-init : goal.loop-count-init
loop-count-init c = none_first c.clear.new.self.items c.args.stack.now c.clear.ensures.items

pub loop-count-preserved : goal.loop-count-preserved
loop-count-preserved c =
    first_more c.loop-count.self c.push.new.self c.in_ok-first.first c.args.stack.now c.loop-count.invariant c.in_ok-first.ensures
    c.in_ok-push.ensures.stacks

pub returns : goal.returns
returns c =
    subst (λ (l : DirStacks). AreFirstOf l c.args.stack.now) (sym c.self-2.view_is) c.loop-count.invariant
