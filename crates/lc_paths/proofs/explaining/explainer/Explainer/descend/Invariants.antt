use Rattle.std.proofs.Common.{length}
use Rattle.lc_paths.specs.Explanations.{OpenDirs.{MayEnter, stack_at}, DirStacks.{StandsBelow, AreStacks}}
use Rattle.lc_paths.proofs.explaining.explainer.Explainer.descend.Given as goal

abbrev pub invariant-names : goal.invariant-names
invariant-names g l = record {
  stacks : AreStacks (MayEnter (g.T.Tree.lists l.self.reader.tree.now) (g.T.Tree.gives l.self.reader.tree.now))
      l.self.reader.filters.now l.kept;
  stands : StandsBelow (stack_at l.kept l.at) l.path l.rest;
}

abbrev pub decreases-names : goal.decreases-names
decreases-names g l = length l.rest
