use Rattle.std.proofs.{Common.{ℕ, List, [], map, subst, sym, append-nil}, lemmas.List.nil_from_length}
use Rattle.lc_level.specs.FileAttributes.{owned_state}
use Rattle.lc_reading.specs.{Members.members_of, States.HasStates}
use Rattle.lc_reading.proofs.states.states_in.Goals as goal
use Rattle.lc_rules.specs.Attributes.{StateModel}

pub returns-clause-states : goal.returns-clause-states
returns-clause-states c =
    subst (λ (ss : List StateModel). HasStates (members_of c.args.members.now) c.args.attributes.now ss)
    (append-nil (map owned_state c.attributes.states.items))
    (c.attributes.invariant.0 [] (subst (λ (ns : List (List ℕ)). HasStates (members_of c.args.members.now) ns [])
    (sym (nil_from_length c.attributes.rest.now c.in_default.ensures.cases)) tt))
