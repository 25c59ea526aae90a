use Rattle.std.proofs.Common.{ap, arith}
use Rattle.lc_board.proofs.WordSeats.{splits}
use Rattle.lc_board.proofs.words.Words.another.Goals as goal

pub split_seat-seat-requires : goal.split_seat-seat-requires
split_seat-seat-requires g c = let t = c.args.pass.now.ties in let low = t.lower in let sq = c.args.self.now.square in
    let own = ap (λ z. z.slots) c.requires.board in let next = c.requires.next in
    (c.requires.board, omega arith, splits _ _ _ _ t.live (omega arith) (omega (arith, c.args.self.now.setup)))
