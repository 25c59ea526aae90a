use Rattle.std.proofs.Common.{◌≡◌, drop}
use Rattle.lc_program.specs.Chosen.{where_parts, with_parts}
use Rattle.lc_program.proofs.chosen.push_conditions.Given as goal

abbrev pub invariant-loop-condition : goal.invariant-loop-condition
invariant-loop-condition l =
    with_parts l.text.items (where_parts l.columns (drop l.condition-index l.conditions))
    ≡ with_parts l.fn.text.items (where_parts l.columns l.conditions)
