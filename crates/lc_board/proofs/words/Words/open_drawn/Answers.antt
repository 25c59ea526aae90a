use Rattle.std.proofs.Common.{arith}
use Rattle.lc_board.proofs.WordPosts.{opens}
use Rattle.lc_board.proofs.words.Words.open_drawn.Goals as goal

pub swap-requires : goal.swap-requires
swap-requires g c = let sq = c.args.self.now.square in let near = c.requires.near in let may = c.requires.may in (
  c.requires.board,
  omega arith,
  opens _ _ _ _ _ _ may.2.0 may.3.0 may.0 (omega arith) may.1 may.2.1 may.2.2 may.3.1,
)
