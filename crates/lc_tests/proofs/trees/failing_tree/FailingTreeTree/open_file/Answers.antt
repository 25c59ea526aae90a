use Rattle.lc_tests.specs.FailingTrees.{MayFail}
use Rattle.lc_tests.proofs.Readings.{reads_follow, gives_or_fails}
use Rattle.lc_tests.proofs.trees.failing_tree.FailingTreeTree.open_file.Goals as goal

-- the reads are those of the file below, but that one may fail
pub returns-in-Ok : goal.returns-in-Ok
returns-in-Ok g c =
    let may_give = g.T.File.Source.may_give in
    let gives = g.T.Tree.gives c.args.self.now.tree.now c.args.path.now in
    λ rooms pieces stop left reads. gives_or_fails may_give rooms gives c.in-Ok.file left.file pieces stop c.in-Ok.ensures
    (reads_follow (λ file. file.file) (λ old room answer new. MayFail may_give old.file room answer new.file) (MayFail may_give) rooms rooms
    (λ old new answer read. read) (record { file = c.in-Ok.file; call = c.args.self.now.call }) left pieces stop reads)
