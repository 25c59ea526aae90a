-- The names so far, and those in what is left.
use Rattle.std.proofs.Common.{◌≡◌, ◌++◌, not, filter, length}
use Rattle.lc_glob.specs.{Bytes.nul, Path.is_no_name, Pieces.pieces_left}
use Rattle.lc_tree.specs.{Named.bytes_of, SysNames.names_in}
use Rattle.lc_tree.proofs.sys_names.add_names.Given as goal

abbrev pub invariant-names : goal.invariant-names
invariant-names l =
    bytes_of l.all.items ++ filter (λ name. not (is_no_name name)) (pieces_left nul l.rest)
    ≡ bytes_of l.initial.all.items ++ names_in l.bytes

abbrev pub decreases-names : goal.decreases-names
decreases-names l = length (pieces_left nul l.rest)
