use Rattle.std.proofs.Common.{ap, ◌∙◌, arith}
use Rattle.lc_board.proofs.WordSeats.{merges}
use Rattle.lc_board.proofs.words.Words.take_in.Goals as goal

pub join_seat-requires : goal.join_seat-requires
join_seat-requires g c = let t = c.args.pass.now.ties in let o = c.args.other.ties in let low = t.lower in
    let sq = c.args.self.now.square in let own = ap (λ z. z.slots) c.requires.board.0 in let told = c.emptied-seat.ensures.same in (
      c.requires.board.0,
      c.emptied-seat.ensures.board,
      c.emptied-seat.ensures.empty,
      omega arith,
      merges _ _ _ _ _ _ t.live
          (told.0 ∙ o.live) (told.4 ∙ o.idle),
    )
