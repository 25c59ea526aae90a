use Rattle.std.proofs.Common.{◌≡◌, false, map, take}
use Rattle.std.specs.{List.list_any, Str.bytes_eq}
use Rattle.lc_arguments.specs.Directories.{unslashed}
use Rattle.lc_arguments.proofs.directories.is_among.Given as goal

abbrev pub invariant-loop-directory : goal.invariant-loop-directory
invariant-loop-directory l = list_any (bytes_eq l.name) (map (λ d. unslashed d.now) (take l.directory-index l.directories)) ≡ false
