use Rattle.std.proofs.Common.{◌∙◌, ◌++◌, ap, map, string_bytes}
use Rattle.lc_program.proofs.NamesTaken.{top_pushed}
use Rattle.lc_program.proofs.faults.top_lines.Goals as goal

pub loop-directory-preserved : goal.loop-directory-preserved
loop-directory-preserved g c =
    top_pushed (g.Y.System.unlists c.args.system.now) (map (λ d. d.now) c.args.directories.now) c.args.faults.now c.args.directories.now
    c.loop-directory.directory-index _ (string_bytes c.loop-directory.text) (string_bytes c.push_str.new.self)
    (string_bytes c.in_ok-line.line) c.loop-directory-test.true c.loop-directory.invariant c.in_ok-line.ensures
    (c.in_ok-push_str.ensures.bytes ∙ ap (λ l. string_bytes c.loop-directory.text ++ l) c.deref.ensures)
