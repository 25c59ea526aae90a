use Rattle.lc_program.proofs.NamesTaken.{named_more}
use Rattle.lc_program.proofs.hints.repositories_above.Goals as goal

pub loop-directory-preserved : goal.loop-directory-preserved
loop-directory-preserved g c =
    named_more (g.Y.System.lies c.args.system.now) c.args.directories.now c.loop-directory.directory-index _
    c.loop-directory.repositories.items c.push.new.self.items c.repository_above.result c.loop-directory-test.true
    c.loop-directory.invariant c.repository_above.ensures c.in_ok-push.ensures.items
