use Rattle.std.proofs.Common.{◌++◌, ◌∷◌, [], Ok, refl, sym, ◌∙◌, ap, subst}
use Rattle.std.specs.Option.{option_copied}
use Rattle.lc_paths.specs.Explanations.{Findings.fault_line_of, OpenDirs.{MayEnter, stack_at}, DirStacks.{StandsBelow, Goes, Steps}}
use Rattle.lc_paths.specs.declared.explaining.{explainer.Step.Step, finding.Finding.TheVariants.Fault}
use Rattle.lc_paths.proofs.Explanations.{Descending.{at_last, step_explained, fault_explained, stack_on}, Entering.entered_path}
use Rattle.lc_paths.proofs.Explanations.{StackCaching.{stacks_kept, found_on}, StackEnds.left_of_last}
use Rattle.lc_paths.proofs.explaining.explainer.Explainer.descend.Goals as goal

pub step-requires-clause-stands : goal.step-requires-clause-stands
step-requires-clause-stands g c κs within =
    left_of_last (stack_at c.names.kept c.names.at) c.in-Some.here.now c.args.path.now c.names.rest.now
    (sym c.last.ensures ∙ ap option_copied c.in-Some.is) c.names.invariant.stands

pub returns-in-Found-clause-found : goal.returns-in-Found-clause-found
returns-in-Found-clause-found g c =
    let enters = MayEnter (g.T.Tree.lists c.args.self.now.reader.tree.now) (g.T.Tree.gives c.args.self.now.reader.tree.now) in
    let f = c.args.self.now.reader.filters.now in
    let here = c.in-Some.here.now in
    let last = at_last enters f _ _ _ here (c.names.invariant.stacks c.names.at) c.names.invariant.stands
    (sym c.last.ensures ∙ ap option_copied c.in-Some.is) in
    found_on enters f c.names.kept c.names.at c.args.path.now c.args.as_dir c.in-Found.finding c.on.result c.on.ensures
    (step_explained enters f _ _ _ here last c.requires.good c.args.as_dir _
    (subst (λ (step : Step). Steps enters f here c.names.rest.now c.args.as_dir step) c.in-Found.is c.in_ok-finding.ensures
    (stack_at c.names.kept c.names.at)))

pub returns-in-Err-clause-found : goal.returns-in-Err-clause-found
returns-in-Err-clause-found g c =
    let enters = MayEnter (g.T.Tree.lists c.args.self.now.reader.tree.now) (g.T.Tree.gives c.args.self.now.reader.tree.now) in
    let f = c.args.self.now.reader.filters.now in
    let last = at_last enters f _ _ _ c.in-Some.here.now (c.names.invariant.stacks c.names.at) c.names.invariant.stands
    (sym c.last.ensures ∙ ap option_copied c.in-Some.is) in
    let into = subst (Steps enters f c.in-Some.here.now c.names.rest.now c.args.as_dir) c.in-Into.is c.in_ok-finding.ensures in
    let entered = subst (λ o. Goes enters c.in-Into.job (stack_at c.names.kept c.names.at) c.names.kept c.enter.new.kept (Ok o)) c.in-Err.is
    c.in_ok-child-in-Into.ensures in
    found_on enters f c.enter.new.kept c.names.at c.args.path.now c.args.as_dir (Fault c.in-Err.fault) c.on-in-Err.result
    c.on-in-Err.ensures
    (fault_explained enters f _ _ _ _ last c.requires.good c.in-Into.job c.in-Into.others.now into.0 c.args.as_dir _
    (fault_line_of c.in-Err.fault) entered.0 refl)

pub names-preserved : goal.names-preserved
names-preserved g c =
    let lists = g.T.Tree.lists c.args.self.now.reader.tree.now in
    let gives = g.T.Tree.gives c.args.self.now.reader.tree.now in
    let f = c.args.self.now.reader.filters.now in
    let stacks = c.names.invariant.stacks in
    let stack = stack_at c.names.kept c.names.at in
    let last = at_last (MayEnter lists gives) f stack _ _ c.in-Some.here.now (stacks c.names.at) c.names.invariant.stands
    (sym c.last.ensures ∙ ap option_copied c.in-Some.is) in
    let into = subst (Steps (MayEnter lists gives) f c.in-Some.here.now c.names.rest.now c.args.as_dir) c.in-Into.is
    c.in_ok-finding.ensures in
    let entered = subst (λ o. Goes (MayEnter lists gives) c.in-Into.job stack c.names.kept c.enter.new.kept (Ok o)) c.in-Ok.is
    c.in_ok-child-in-Into.ensures in
    let on = stack_on (MayEnter lists gives) f stack _ _ _ last c.requires.good c.in-Into.job c.in-Into.others.now into.0 entered.0
    (stacks c.names.at) (entered_path lists gives c.in-Into.job entered.0 entered.1) entered.1 in
    record {
      stacks = stacks_kept (MayEnter lists gives) f c.names.kept c.enter.new.kept (stack ++ entered.0 ∷ []) c.in-Ok.child stacks on.0
          entered.2;
      stands = subst (λ l. StandsBelow l c.args.path.now c.in-Into.others.now) (sym entered.2.is) on.1;
    }
