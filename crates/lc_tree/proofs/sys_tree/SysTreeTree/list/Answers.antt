use Rattle.lc_io.specs.contracts.std_source.StdSourceSource.TheImpl as source
use Rattle.lc_tree.specs.Named.{bytes_of}
use Rattle.lc_tree.proofs.SysLooked.{listed_entries, unread_names}
use Rattle.lc_tree.proofs.sys_tree.SysTreeTree.list.Goals as goal

pub returns-in-Err : goal.returns-in-Err
returns-in-Err g c =
    unread_names (source.ghosts g.row.R-Dir g.R.Dir.Read source.no_dict).may_give c.args.self.now c.args.path.now c.in-Err.fault
    c.in-Err.ensures.fault

pub returns-in-Ok-look_at : goal.returns-in-Ok-look_at
returns-in-Ok-look_at g c =
    listed_entries (source.ghosts g.row.R-Dir g.R.Dir.Read source.no_dict).may_give c.args.self.now c.args.path.now
    (bytes_of c.in-Ok.names.items) c.in-Ok-look_at.entries.items c.listed.result c.in-Ok.ensures.names c.in-Ok-look_at.ensures
    c.listed.ensures
