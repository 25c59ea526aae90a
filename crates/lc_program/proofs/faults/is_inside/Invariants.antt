use Rattle.std.proofs.Common.{◌≡◌, bytes_eq, false, map, take}
use Rattle.std.specs.List.{list_any}
use Rattle.lc_program.specs.Faults.{top_path}
use Rattle.lc_program.proofs.faults.is_inside.Given as goal

abbrev pub invariant-loop-directory : goal.invariant-loop-directory
invariant-loop-directory l =
    list_any (λ directory. bytes_eq l.fault.path (top_path (map (λ d. d.now) l.directories) directory))
    (map (λ d. d.now) (take l.directory-index l.directories))
    ≡ false
