use Rattle.std.proofs.Common.{◌≡◌, length, map}
use Rattle.std.specs.List.{list_any}
use Rattle.lc_arguments.specs.Reports.{is_input}
use Rattle.lc_arguments.proofs.reports.first_input.Given as goal

abbrev pub invariant-rest : goal.invariant-rest
invariant-rest l = list_any is_input (map (λ word. word.now) l.rest) ≡ list_any is_input (map (λ word. word.now) l.words)

abbrev pub decreases-rest : goal.decreases-rest
decreases-rest l = length l.rest
