use Rattle.std.proofs.Common.{map}
use Rattle.lc_program.proofs.FoundLists.{joined_listed}
use Rattle.lc_program.proofs.finding.found_in_all.Goals as goal

pub returns-clause-files : goal.returns-clause-files
returns-clause-files g c =
    joined_listed (λ d. g.Y.Tree.Tree.lists (g.Y.System.tree c.args.system.now d c.args.entered))
    (λ d. g.Y.Tree.Tree.gives (g.Y.System.tree c.args.system.now d c.args.entered)) c.args.options.now
    (map (λ d. d.now) c.args.directories.now) c.in_ok-reports.reports.items c.in_ok-report.report c.in_ok-reports.ensures.found
    c.in_ok-report.ensures
