use Rattle.std.proofs.Common.{min, None}
use Rattle.lc_tests.proofs.Readings.{reads_follow, some_of_one}
use Rattle.lc_tests.proofs.trees.bytewise_tree.BytewiseTreeTree.open_file.Goals as goal

-- a read of one byte is a read of the file below
pub returns-in-Ok : goal.returns-in-Ok
returns-in-Ok g c =
    let may_give = g.T.File.Source.may_give in
    λ rooms pieces stop left reads. c.in-Ok.ensures None pieces stop left.0
    (reads_follow (λ file. file.0) (λ old room answer new. may_give old.0 (min room 1) answer new.0) may_give rooms None
    (λ old new answer read. (min read.0 1, some_of_one read.0 read.1, tt, read.3)) (record { 0 = c.in-Ok.file }) left pieces stop reads)
