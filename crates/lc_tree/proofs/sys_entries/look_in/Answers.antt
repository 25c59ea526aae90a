use Rattle.std.proofs.Common.{string_bytes}
use Rattle.lc_tree.specs.{Named.bytes_of, SysLooks.ShowsIn, SysNames.with_slash}
use Rattle.lc_tree.proofs.SomeNames.{memory_fault}
use Rattle.lc_tree.proofs.sys_entries.look_in.Goals as goal

pub returns-in_default : goal.returns-in_default
returns-in_default g c =
    memory_fault (ShowsIn (g.L.Look.may_answer c.args.looks.now) c.args.directory.now (with_slash (string_bytes c.args.path)))
    (bytes_of c.args.names.items)
