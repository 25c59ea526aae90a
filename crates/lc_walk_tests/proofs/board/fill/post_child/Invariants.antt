use Rattle.std.proofs.Common.{◌≡◌}
use Rattle.lc_board.specs.Pass.{holding}
use Rattle.lc_walk_tests.proofs.board.fill.post_child.Given as goal

abbrev pub invariant-loop : goal.invariant-loop
invariant-loop g l =
    (goal.iterator-loop g).can_next l.iterator'
    × (goal.iterator-loop g).is_finite l.iterator'
    × g.B.Shared.owns l.board l.pass
    × ((g.B.Pass.Token.view l.pass).worker ≡ (g.B.Pass.Token.view l.fn.pass).worker)
    × (holding (g.B.Pass.Token.view l.pass) ≡ holding (g.B.Pass.Token.view l.fn.pass))
