use Rattle.std.proofs.Common.{◌≡◌}
use Rattle.lc_board.specs.Pass.{holding}
use Rattle.lc_walk_tests.proofs.board.fill.post_children.Given as goal

abbrev pub invariant-loop-name : goal.invariant-loop-name
invariant-loop-name g l =
    g.B.Shared.owns l.board l.pass
    × ((g.B.Pass.Token.view l.pass).worker ≡ (g.B.Pass.Token.view l.fn.pass).worker)
    × (holding (g.B.Pass.Token.view l.pass) ≡ holding (g.B.Pass.Token.view l.fn.pass))
