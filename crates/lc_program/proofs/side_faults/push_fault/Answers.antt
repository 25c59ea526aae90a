use Rattle.std.proofs.Common.{◌≡◌, ◌++◌, codes, string_bytes, subst}
use Rattle.lc_level.specs.FaultLines.{FaultLineModel}
use Rattle.lc_program.proofs.Appending.{appended}
use Rattle.lc_program.specs.SideFaults.{fault_line}
use Rattle.lc_program.proofs.side_faults.push_fault.Goals as goal

pub returns : goal.returns
returns c =
    let named = string_bytes c.push_visible.new.text in
    let all = string_bytes c.push_str-3.new.self in
    subst (λ (f : FaultLineModel). all ≡ string_bytes c.args.text.now ++ fault_line c.args.name.now f) c.fault.view_is
    (appended (string_bytes c.args.text.now) (string_bytes c.push_str.new.self) named all (codes "lc: ") _ _
    c.in_ok-push_str.ensures.bytes (rw c.as_bytes.ensures.value at c.in_ok-push_visible.ensures)
    (appended named (string_bytes c.push_str-2.new.self) (string_bytes c.push_visible-2.new.text) all (codes ": cannot read ") _
    (codes "\n") c.in_ok-push_str-2.ensures.bytes (rw (c.or_here.ensures, c.deref.ensures.value) at c.in_ok-push_visible-2.ensures)
    c.in_ok-push_str-3.ensures.bytes))
