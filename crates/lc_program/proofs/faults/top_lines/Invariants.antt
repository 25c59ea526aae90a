use Rattle.std.proofs.Common.{map, string_bytes, take}
use Rattle.lc_program.specs.Faults.{AreTopLines}
use Rattle.lc_program.proofs.faults.top_lines.Given as goal

abbrev pub invariant-loop-directory : goal.invariant-loop-directory
invariant-loop-directory g l =
    AreTopLines (g.Y.System.unlists l.system) (map (λ d. d.now) l.directories) l.faults
    (map (λ d. d.now) (take l.directory-index l.directories)) (string_bytes l.text)
