use Rattle.std.proofs.Common.{◌≡◌, ◌++◌, take}
use Rattle.std.specs.List.{filter_map}
use Rattle.lc_level.specs.NamedAttributes.{attributes_of}
use Rattle.lc_program.specs.WalkRequests.{own_attribute}
use Rattle.lc_program.proofs.attributes.push_attributes.Given as goal

abbrev pub invariant-loop-column : goal.invariant-loop-column
invariant-loop-column l =
    attributes_of l.words.items ≡ attributes_of l.initial.words.items ++ filter_map own_attribute (take l.column-index l.columns)
