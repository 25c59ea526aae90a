use Rattle.std.proofs.Common.{◌≡◌, length, map}
use Rattle.lc_arguments.specs.Reports.{read_input_once}
use Rattle.lc_arguments.proofs.reports.second_input.Given as goal

abbrev pub invariant-rest : goal.invariant-rest
invariant-rest l = read_input_once (map (λ word. word.now) l.rest) ≡ read_input_once (map (λ word. word.now) l.words)

abbrev pub decreases-rest : goal.decreases-rest
decreases-rest l = length l.rest
