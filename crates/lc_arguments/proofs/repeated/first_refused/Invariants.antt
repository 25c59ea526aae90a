use Rattle.std.proofs.Common.{◌≡◌, true, take}
use Rattle.std.specs.List.{list_all}
use Rattle.lc_arguments.specs.Repeated.{is_allowed}
use Rattle.lc_arguments.proofs.repeated.first_refused.Given as goal

abbrev pub invariant-loop-value : goal.invariant-loop-value
invariant-loop-value l = list_all (λ value. is_allowed l.option value.now) (take l.value-index l.values) ≡ true
