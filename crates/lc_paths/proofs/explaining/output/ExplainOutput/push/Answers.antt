use Rattle.std.proofs.Common.{ap, sym, if◌then◌else◌}
use Rattle.lc_paths.specs.{declared.outcome.Outcome.TheVariants.SomeFaults, Explanations.{Explained.cited, ExplainText.is_fault}}
use Rattle.lc_paths.specs.Explanations.{Findings.explanation_of, OpenDirs.stack_to}
use Rattle.lc_paths.proofs.explaining.output.ExplainOutput.push.Goals as goal

pub returns-in-Fault-clause-outcome : goal.returns-in-Fault-clause-outcome
returns-in-Fault-clause-outcome c =
    sym (ap (λ f. if is_fault (explanation_of (cited c.args.filters.now (stack_to c.args.kept.now c.args.found.now.to)) f) then SomeFaults
    else c.args.self.now.outcome)
    c.in-Fault.is)
