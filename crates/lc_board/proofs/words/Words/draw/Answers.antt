use Rattle.std.proofs.Common.{arith, sym, ap, ◌∙◌, ℕ, ◌+◌, ◌*◌}
use Rattle.lc_board.proofs.{WordPosts.draws, WordTies.holds_some}
use Rattle.lc_board.specs.Holding.{holding}
use Rattle.lc_board.proofs.words.Words.draw.Goals as goal

pub compare_exchange-old-requires : goal.compare_exchange-old-requires
compare_exchange-old-requires g c = let sq = c.args.self.now.square in let near = c.requires.near in let may = c.requires.may in
    let h = holds_some (holding c.args.seat.now.me.0.mine) may.4 in (
      c.requires.board,
      omega arith,
      draws _ _ _ _ _ _ _ h.0 may.0 (omega arith) may.2 may.3 h.1 (c.drawn_by-new.ensures ∙ ap (λ (n : ℕ). 4 + 2 * n) (sym may.1)),
    )
