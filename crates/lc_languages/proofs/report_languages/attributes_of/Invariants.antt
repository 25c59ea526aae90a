use Rattle.std.proofs.Common.{◌≡◌, map, take}
use Rattle.lc_level.specs.FileAttributes.{owned_state}
use Rattle.lc_rules.specs.Models.{state_model}
use Rattle.lc_languages.proofs.report_languages.attributes_of.Given as goal

abbrev pub invariant-loop-state : goal.invariant-loop-state
invariant-loop-state l = map state_model l.states.items ≡ map owned_state (take l.state-index l.state-items)
