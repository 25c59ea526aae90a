-- The names of the reads so far.
use Rattle.std.proofs.Common.{◌≡◌, ℕ, List}
use Rattle.std.specs.List.{flat_map}
use Rattle.lc_io.specs.Reads.{AnyRoom, Reads, at_neither}
use Rattle.lc_tree.specs.{Named.bytes_of, SysNames.names_in}
use Rattle.lc_tree.proofs.sys_names.read_names_by.Given as goal

abbrev pub invariant-loop-turn : goal.invariant-loop-turn
invariant-loop-turn g l =
    (pieces : List (List ℕ)) × Reads g.S.Source.may_give AnyRoom l.initial.dir pieces at_neither l.dir
    × (bytes_of l.all.items ≡ flat_map names_in pieces)
