use Rattle.std.proofs.Common.{◌≡◌, false, map, take}
use Rattle.lc_rules.specs.{AttrStates.state_of, Models.state_model}
use Rattle.lc_level.proofs.counting.asked_states.Given as goal

abbrev pub invariant-loop-name : goal.invariant-loop-name
invariant-loop-name l =
    map state_model l.states.items ≡ map (state_of l.job.attributes l.path false) (map (λ name. name.items) (take l.name-index l.names))
