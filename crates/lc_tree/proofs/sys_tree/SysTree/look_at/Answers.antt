use Rattle.std.proofs.Common.{string_bytes, sym, ◌∙◌, ap}
use Rattle.lc_tree.specs.{Bounds.stays, Named.bytes_of, SysTrees.SysTop}
use Rattle.lc_tree.proofs.SysLooked.{looked_there, not_there}
use Rattle.lc_tree.proofs.sys_tree.SysTree.look_at.Goals as goal

pub returns-in-Ok : goal.returns-in-Ok
returns-in-Ok g c =
    looked_there c.args.self.now c.args.path.now (string_bytes c.in-Ok.text) (stays c.self.inside.bounds) (bytes_of c.args.names.items)
    c.look_in.result (ap (λ (t : SysTop). t.stays) c.self.view_is) c.in-Ok.ensures.path c.look_in.ensures

pub returns-in-Err : goal.returns-in-Err
returns-in-Err g c =
    not_there c.args.self.now c.args.path.now c.args.names.items _ c.in-Err.fault c.args.names.ok.0
    (sym c.is_empty.ensures ∙ c.if-is_empty.false) c.in-Err.ensures.fault
