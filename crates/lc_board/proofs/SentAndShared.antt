-- Boards may be shared among threads, and their passes sent to them, as jobs and rows may.
use denote.RattleType.{RattleType}
use denote.Param.Send.{IsSend, IsSync, sendable}
use Rattle.std.proofs.Crossing as below
use Rattle.atomic_table.proofs.send_lease.SendLease.TheSendSync as lease
use Rattle.atomic_table.proofs.shared.Seat.TheSendSync as seat
use Rattle.atomic_table.proofs.shared.Shared.TheSendSync as table
use Rattle.lc_board.specs.contracts.locked.Locked as Locked
use Rattle.lc_board.specs.contracts.locked.pass.LockedPass as LockedPass
use Rattle.lc_board.specs.contracts.words.Words as Words
use Rattle.lc_board.specs.contracts.words.pass.WordsPass as WordsPass

module _ (J R : RattleType) where
  pub words_pass_send : IsSend J → IsSend R → IsSend (WordsPass.the_row J R)
  words_pass_send j r = search (seat.the_send, sendable, below.crosses) depth 60 fits 20000

  pub words_sync : IsSend J → IsSend R → IsSync (Words.the_row J R)
  words_sync j r = search (table.the_sync, lease.the_sync, sendable, below.crosses) depth 60 fits 20000

  pub locked_pass_send : IsSend J → IsSend R → IsSend (LockedPass.the_row J R)
  locked_pass_send j r = search (sendable, below.crosses) depth 60 fits 20000

  pub locked_sync : IsSend J → IsSend R → IsSync (Locked.the_row J R)
  locked_sync j r = search (sendable, below.crosses) depth 60 fits 20000
