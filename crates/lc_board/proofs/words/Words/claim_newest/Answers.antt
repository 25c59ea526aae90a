use Rattle.std.proofs.Common.{inr}
use Rattle.lc_board.proofs.WordMarks.{missed_taken}
use Rattle.lc_board.proofs.words.Words.claim_newest.Goals as goal

pub returns-in-Err-clause-steps : goal.returns-in-Err-clause-steps
returns-in-Err-clause-steps g c = let i = c.in_ok-number.number in let told = c.in-Err.ensures.rule in inr (
  i,
  c.in-Err.ensures.steps,
  missed_taken _ i _ c.args.pass.now.seat.me.0 c.try_claim.new.pass.seat.me.0 told.2 told.1
      (c.args.pass.now.listed i c.in_ok-number.ensures.taken),
)
