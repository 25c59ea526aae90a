use Rattle.std.proofs.Common.{subst}
use Rattle.lc_paths.specs.Explanations.{OpenDirs.DirStacks, DirStacks.Keeps}
use Rattle.lc_paths.proofs.Explanations.StackCaching.{keeps_more, keeps_alone}
use Rattle.lc_paths.proofs.explaining.stack_cache.StackCache.keep.Goals.{then-self+in_ok-drop_beside, else-self}
use Rattle.lc_paths.proofs.explaining.stack_cache.StackCache.keep.Goals as goal

pub returns : goal.returns
returns c =
    let mid = c.if-self.self in
    elim c.if-self.branch [
      | then-self+in_ok-drop_beside w ↦
          keeps_alone c.args.self.now w.drop_beside.new.self mid c.push.new.self c.args.stack c.in_ok-at.at w.self-is
          w.in_ok-drop_beside.ensures c.in_ok-at.ensures.stacks c.in_ok-at.ensures.at
      | else-self w ↦
          subst (λ (l : DirStacks). Keeps l c.args.stack c.push.new.self c.in_ok-at.at) w.self-is
          (keeps_more mid c.push.new.self c.args.stack c.in_ok-at.at c.in_ok-at.ensures.stacks c.in_ok-at.ensures.at)
    ]
