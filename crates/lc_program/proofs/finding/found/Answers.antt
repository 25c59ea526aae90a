use Rattle.std.proofs.Common.{inl}
use Rattle.lc_program.proofs.FoundNames.{passed_on}
use Rattle.lc_program.specs.{Counts.names_of, Finds.FindsNoneFor, WalkRequests.entered_by}
use Rattle.lc_walk.specs.Walks.{Walks}
use Rattle.lc_program.proofs.finding.found.Goals as goal

pub returns-in_err-report-clause-none : goal.returns-in_err-report-clause-none
returns-in_err-report-clause-none g c =
    passed_on (FindsNoneFor
    (λ d. Walks (g.Y.Tree.Tree.lists (g.Y.System.tree c.args.system.now d (entered_by c.args.asked.now.walk)))
    (g.Y.Tree.Tree.gives (g.Y.System.tree c.args.system.now d (entered_by c.args.asked.now.walk))) c.args.options.now)
    (names_of c.args.asked.now)) c.from_residual.result c.in_err-report.field-0.0 c.from_residual.ensures.1
    (inl (rw (c.entered_by-entered.ensures, c.deref.ensures.value) at c.in_err-report.ensures.none))

pub returns-clause-found : goal.returns-clause-found
returns-clause-found g c = (
  c.in_ok-report.report,
  rw (c.entered_by-entered.ensures, c.deref.ensures.value) at c.in_ok-report.ensures.found,
  c.in_ok-report-2.ensures,
)
