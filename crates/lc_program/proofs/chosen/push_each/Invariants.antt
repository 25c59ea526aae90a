use Rattle.std.proofs.Common.{◌≡◌, drop}
use Rattle.lc_program.specs.Chosen.{each_after, with_parts}
use Rattle.lc_program.proofs.chosen.push_each.Given as goal

abbrev pub invariant-loop-value : goal.invariant-loop-value
invariant-loop-value l =
    with_parts l.text.items (each_after l.phrase (drop l.value-index l.values)) ≡ with_parts l.fn.text.items (each_after l.phrase l.values)
