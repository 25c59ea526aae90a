use Rattle.std.proofs.Common.{List, ◌++◌, length, map}
use Rattle.lc_level.specs.FileAttributes.{owned_state}
use Rattle.lc_rules.specs.Attributes.{StateModel}
use Rattle.lc_reading.specs.{Members.members_of, StateFaults.LacksSomeState, States.HasStates}
use Rattle.lc_reading.specs.declared.read_fault.ReadFault.{ReadFault}
use Rattle.lc_reading.proofs.states.states_in.Given as goal

abbrev pub invariant-attributes : goal.invariant-attributes
invariant-attributes l =
    ((more : List StateModel) → HasStates (members_of l.members) l.rest more
    → HasStates (members_of l.members) l.attributes (map owned_state l.states.items ++ more))
    × ((f : ReadFault) → LacksSomeState (members_of l.members) l.place l.rest f
    → LacksSomeState (members_of l.members) 0 l.attributes f)

abbrev pub decreases-attributes : goal.decreases-attributes
decreases-attributes l = length l.rest
