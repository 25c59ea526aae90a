use Rattle.lc_tree.proofs.SysLooked.{opening_fault}
use Rattle.lc_tree.proofs.sys_tree.SysTree.names_at.Goals as goal

pub returns-in-Err-clause-fault : goal.returns-in-Err-clause-fault
returns-in-Err-clause-fault g c = opening_fault c.args.self.now c.args.path.now c.in-Err.fault c.in-Err.ensures.fault
