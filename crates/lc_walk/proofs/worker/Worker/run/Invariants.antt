use Rattle.lc_level.specs.TreeAnswers.{MayAnswer}
use Rattle.lc_walk.specs.{BoardPasses.{IsFree, IsPassOf}, WorkerResults.HasWorked, WalkOptions.asked_by}
use Rattle.lc_walk.proofs.worker.Worker.run.Given as goal

abbrev pub invariant-loop : goal.invariant-loop
invariant-loop g l =
    (goal.iterator-loop g).can_next l.iterator'
    × (goal.iterator-loop g).is_finite l.iterator'
    × IsPassOf g.B.Shared.owns g.B.Pass.Token.view l.self.board.now IsFree l.pass
    × HasWorked (asked_by l.self.options.now) (MayAnswer (g.T.Tree.lists l.self.reader.tree.now) (g.T.Tree.gives l.self.reader.tree.now))
    (g.B.Pass.Token.view l.fn.pass) (g.B.Pass.Token.view l.pass) l.tally
