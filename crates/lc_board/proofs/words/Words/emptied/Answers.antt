use Rattle.std.proofs.Common.{◌∷◌, sym, ap, ◌∙◌, arith}
use Rattle.atomic_table.specs.Table.{rest}
use Rattle.lc_board.specs.{WordPass.carried_as, declared.words.view.Slot.TheVariants.Empty}
use Rattle.lc_board.proofs.{WordEnds.puts_down, WordTies.carried_is}
use Rattle.lc_board.proofs.words.Words.emptied.Goals as goal

pub load-requires : goal.load-requires
load-requires g c = let p = c.args.pass in let t = p.ties in let sq = c.args.self.now.square in
    let own = ap (λ z. z.slots) c.requires.board in
    let inside = t.inside c.in-Some.number c.in-Some.is in
    let carried = carried_is p.seat.me.1 p.holding t.carries ∙ ap carried_as c.in-Some.is in (
      c.requires.board,
      omega arith,
      puts_down _ _ _ _ _ _ t.live (omega arith) t.idle (t.holds ∙ c.in-Some.is)
          (carried ∙ ap (λ l. (c.in-Some.number, Empty) ∷ rest l) (sym carried)),
    )

pub returns-in-None-clause-empty : goal.returns-in-None-clause-empty
returns-in-None-clause-empty g c = let p = c.args.pass in carried_is p.seat.me.1 p.holding p.ties.carries ∙ ap carried_as c.in-None.is

pub returns-clause-empty : goal.returns-clause-empty
returns-clause-empty g c = let p = c.args.pass in let carried = carried_is p.seat.me.1 p.holding p.ties.carries
    ∙ ap carried_as c.in-Some.is in c.load.ensures.2.0.4 ∙ ap rest carried
