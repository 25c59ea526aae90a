use Rattle.std.proofs.Common.{◌≡◌, ℕ, List, ◌++◌, length}
use Rattle.lc_paths.specs.{Explanations.{Explained.IsExplained, OpenDirs.MayEnter, DirStacks.AreStacks}, Paths.paths_in}
use Rattle.lc_paths.proofs.Explanations.SoFar.{SoFar}
use Rattle.lc_paths.proofs.explaining.printing.print_paths.Given as goal

abbrev pub invariant-lines : goal.invariant-lines
invariant-lines g l = record {
  stacks : AreStacks (MayEnter (g.T.Tree.lists l.explainer.reader.tree.now) (g.T.Tree.gives l.explainer.reader.tree.now))
      l.explainer.reader.filters.now l.kept;
  done : List (List ℕ);
  so_far : SoFar g.O.Sink.may_take l.explainer.style
      (IsExplained (MayEnter (g.T.Tree.lists l.explainer.reader.tree.now) (g.T.Tree.gives l.explainer.reader.tree.now))
      l.explainer.reader.filters.now) done l.initial.out l.output.block.text.items
      l.output.outcome l.out;
  left : done ++ paths_in l.rest ≡ paths_in l.fn.paths;
}

abbrev pub decreases-lines : goal.decreases-lines
decreases-lines g l = length (paths_in l.rest)
