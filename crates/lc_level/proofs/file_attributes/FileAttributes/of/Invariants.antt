use Rattle.std.proofs.Common.{◌≡◌, map, take}
use Rattle.lc_rules.specs.Models.{state_model}
use Rattle.lc_level.specs.FileAttributes.{owned_state}
use Rattle.lc_level.proofs.file_attributes.FileAttributes.of.Given as goal

abbrev pub invariant-loop-state : goal.invariant-loop-state
invariant-loop-state l = map owned_state l.states.items ≡ map state_model (take l.state-index l.asked)
