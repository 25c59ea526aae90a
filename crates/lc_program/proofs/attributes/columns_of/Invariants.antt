use Rattle.std.proofs.Common.{◌≡◌, take}
use Rattle.lc_program.specs.WalkRequests.{columns_of}
use Rattle.lc_program.proofs.attributes.columns_of.Given as goal

abbrev pub invariant-loop-name : goal.invariant-loop-name
invariant-loop-name l = l.columns.items ≡ columns_of (take l.name-index l.names)
