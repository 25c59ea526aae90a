use Rattle.std.proofs.Common.{[], Ok, subst}
use Rattle.lc_level.specs.TopJob.{top_job}
use Rattle.lc_paths.specs.Explanations.{OpenDirs.MayEnter, DirStacks.Goes}
use Rattle.lc_paths.proofs.Explanations.{Descending.top_kept, Entering.entered_path}
use Rattle.lc_paths.proofs.explaining.explainer.Explainer.find.Goals as goal

pub descend-requires-in-Ok-clause-stacks : goal.descend-requires-in-Ok-clause-stacks
descend-requires-in-Ok-clause-stacks g c κs within =
    let lists = g.T.Tree.lists c.args.self.now.reader.tree.now in
    let gives = g.T.Tree.gives c.args.self.now.reader.tree.now in
    let f = c.args.self.now.reader.filters.now in
    (top_kept (MayEnter lists gives) f c.args.self.now.top c.args.self.now.starts (entered_path lists gives (top_job f)) c.args.kept.now
    c.enter.new.kept c.in-Ok.at c.args.path.now c.requires
    (subst (λ o. Goes (MayEnter lists gives) c.args.self.now.top [] c.args.kept.now c.enter.new.kept (Ok o)) c.in-Ok.is
    c.in_ok-at.ensures)).0

pub descend-requires-in-Ok-clause-stands : goal.descend-requires-in-Ok-clause-stands
descend-requires-in-Ok-clause-stands g c κs within =
    let lists = g.T.Tree.lists c.args.self.now.reader.tree.now in
    let gives = g.T.Tree.gives c.args.self.now.reader.tree.now in
    let f = c.args.self.now.reader.filters.now in
    (top_kept (MayEnter lists gives) f c.args.self.now.top c.args.self.now.starts (entered_path lists gives (top_job f)) c.args.kept.now
    c.enter.new.kept c.in-Ok.at c.args.path.now c.requires
    (subst (λ o. Goes (MayEnter lists gives) c.args.self.now.top [] c.args.kept.now c.enter.new.kept (Ok o)) c.in-Ok.is
    c.in_ok-at.ensures)).1
