use Rattle.std.proofs.Common.{map, sym, ◌∙◌, subst, arith, Err}
use Rattle.lc_walk.specs.{Passes.asked, BoardAnswers.WalkAnswers}
use Rattle.lc_level.specs.TreeAnswers.{MayAnswer}
use Rattle.lc_walk.proofs.AnswersOfClose.{assembled_walk, refused_walk, few_rows, mapped}
use Rattle.lc_walk.proofs.closing.finish.Goals as goal

pub close-requires-clause-all : goal.close-requires-clause-all
close-requires-clause-all g c = c.args.passes.ok.0 ∙ c.requires.all

pub close-requires-clause-each : goal.close-requires-clause-each
close-requires-clause-each g c = c.requires.each

pub assemble-requires : goal.assemble-requires
assemble-requires g c =
    let few = few_rows _ _ _ _ _ c.in-Ok.closed.rows.items c.requires.room.0 (c.in-Ok.ensures.settled c.requires.top.0 c.requires.top.1) in
    omega (arith, few, c.requires.room.1)

pub returns-in-Ok : goal.returns-in-Ok
returns-in-Ok g c tree filters worked root is at_top =
    assembled_walk (asked c.args.lists filters) (MayAnswer (g.T.Tree.lists tree) (g.T.Tree.gives tree))
    (g.B.Shared.capacity_of c.args.board) (g.B.Shared.workers_of c.args.board) root g.B.Shared.promises
    (map (λ p. g.B.Pass.Token.view p) c.args.passes.items) c.requires.room.0
    (mapped (λ p. g.B.Pass.Token.view p) c.args.passes.items ∙ c.requires.all) at_top
    worked.given worked.lawful c.in-Ok.closed.rows.items (c.in-Ok.ensures.settled root is) c.args.tally worked.tallied
    c.assemble.result c.assemble.ensures

pub returns-in-Err : goal.returns-in-Err
returns-in-Err g c tree filters worked root is at_top =
    subst (λ f. WalkAnswers (MayAnswer (g.T.Tree.lists tree) (g.T.Tree.gives tree)) (asked c.args.lists filters)
    (g.B.Shared.capacity_of c.args.board) (g.B.Shared.workers_of c.args.board) root g.B.Shared.promises (Err f))
    (sym c.from.ensures)
    (refused_walk (asked c.args.lists filters) (MayAnswer (g.T.Tree.lists tree) (g.T.Tree.gives tree))
    (g.B.Shared.capacity_of c.args.board) (g.B.Shared.workers_of c.args.board) root g.B.Shared.promises
    (map (λ p. g.B.Pass.Token.view p) c.args.passes.items) c.requires.room.0
    (mapped (λ p. g.B.Pass.Token.view p) c.args.passes.items ∙ c.requires.all) at_top
    c.requires.workers worked.ended c.in-Err.fault c.in-Err.ensures.fault)
