-- The boards of a walk may be shared among its threads, and their passes sent to them, as a set for `search`.
use denote.Param.Send.{IsSend, IsSync, sendable}
use Rattle.std.proofs.Crossing as below
use Rattle.lc_board.proofs.SentAndShared as board
use Rattle.lc_board.specs.contracts.locked.Locked as Locked
use Rattle.lc_board.specs.contracts.locked.pass.LockedPass as LockedPass
use Rattle.lc_board.specs.contracts.words.Words as Words
use Rattle.lc_board.specs.contracts.words.pass.WordsPass as WordsPass
use Rattle.lc_level.proofs.SentAndShared as level
use Rattle.lc_level.specs.contracts.job.Job as Job
use Rattle.lc_walk.specs.contracts.row.Row as Row

row_send : IsSend Row.the_row
row_send = search (level.crosses, sendable, below.crosses) depth 60 fits 20000

pub words_pass_send : IsSend (WordsPass.the_row Job.the_row Row.the_row)
words_pass_send = board.words_pass_send Job.the_row Row.the_row level.job_send row_send

pub words_sync : IsSync (Words.the_row Job.the_row Row.the_row)
words_sync = board.words_sync Job.the_row Row.the_row level.job_send row_send

pub locked_pass_send : IsSend (LockedPass.the_row Job.the_row Row.the_row)
locked_pass_send = board.locked_pass_send Job.the_row Row.the_row level.job_send row_send

pub locked_sync : IsSync (Locked.the_row Job.the_row Row.the_row)
locked_sync = board.locked_sync Job.the_row Row.the_row level.job_send row_send

pub ruleset crosses = (words_pass_send, words_sync, locked_pass_send, locked_sync)
