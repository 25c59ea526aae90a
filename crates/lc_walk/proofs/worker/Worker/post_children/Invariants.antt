use Rattle.std.proofs.Common.{◌≡◌, ◌++◌}
use Rattle.lc_board.specs.Holding.{posts_held}
use Rattle.lc_walk.specs.{BoardPasses.{HoldsClaim, IsPassOf}, Lawful.{jobs_of, named}, Posting.HasPosted}
use Rattle.lc_walk.proofs.worker.Worker.post_children.Given as goal

abbrev pub invariant-loop-child : goal.invariant-loop-child
invariant-loop-child g l =
    (goal.iterator-loop-child g).can_next l.child-iterator
    × (goal.iterator-loop-child g).is_finite l.child-iterator
    × IsPassOf g.B.Shared.owns g.B.Pass.Token.view l.self.board.now HoldsClaim l.pass
    × (l.yielded ++ l.child-iterator.rest.items ≡ l.fn.directories.items)
    × ((p : HasPosted (g.B.Pass.Token.view l.fn.pass) (g.B.Pass.Token.view l.pass) (jobs_of l.yielded))
    × (l.children.items ≡ named l.yielded (posts_held p.since)))
