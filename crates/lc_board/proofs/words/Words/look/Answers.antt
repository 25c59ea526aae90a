use Rattle.std.proofs.Common.{sym, subst, arith}
use Rattle.lc_board.specs.WordSteps.{HasLooked}
use Rattle.lc_board.proofs.{WordClaims.looks, WordMarks.{keeps_missed, listed_on, marked_missed}}
use Rattle.lc_board.proofs.words.Words.look.Goals as goal

pub load-requires : goal.load-requires
load-requires g c = let sq = c.args.self.now.square in let near = c.requires.near in (
  c.requires.board,
  omega arith,
  looks _ _ _ _ _ _ c.args.pass.now.ties.live (omega arith),
)

pub invariant_of-pass-clause-marked : goal.invariant_of-pass-clause-marked
invariant_of-pass-clause-marked g c = let v = c.args.pass.now.seat.me.0 in let w = c.load.new.seat.me.0 in
    let saw = subst (λ x. HasLooked c.args.self.now.table.shared.table_id.slots c.args.number x v w)
    (sym c.of-found.ensures) c.load.ensures.2.1 in
    marked_missed _ c.args.number c.of-found.result c.args.pass.now.taken _ v w saw c.next_taken-pass.ensures c.args.pass.now.marked

pub invariant_of-pass-clause-listed : goal.invariant_of-pass-clause-listed
invariant_of-pass-clause-listed g c = let v = c.args.pass.now.seat.me.0 in let w = c.load.new.seat.me.0 in
    listed_on c.args.pass.now.newest v w (keeps_missed _ _ _ v w c.load.ensures.2.1) c.args.pass.now.listed
