use Rattle.std.proofs.Common.{subst}
use Rattle.lc_reports.specs.Named.{IsNamed}
use Rattle.lc_program.proofs.finding.walk_below.Goals as goal

pub returns-in_ok-report-in-Ok-clause-found : goal.returns-in_ok-report-in-Ok-clause-found
returns-in_ok-report-in-Ok-clause-found g c = record {
  report = c.in-Ok.report;
  walked = c.in-Ok.ensures;
  is_named = subst (λ name. IsNamed name c.in-Ok.report c.in_ok-report-in-Ok.report) c.unslashed.ensures c.in_ok-report-in-Ok.ensures;
}
