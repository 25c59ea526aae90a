use Rattle.lc_program.proofs.{FoundLists.one_listed, FoundNames.{finds_many, none_many}}
use Rattle.lc_walk.specs.Walks.{Walks}
use Rattle.lc_program.proofs.finding.found_in.Goals as goal

pub returns-then-directories-ne1-clause-found : goal.returns-then-directories-ne1-clause-found
returns-then-directories-ne1-clause-found g c =
    finds_many (λ d. Walks (g.Y.Tree.Tree.lists (g.Y.System.tree c.args.system.now d c.args.entered))
    (g.Y.Tree.Tree.gives (g.Y.System.tree c.args.system.now d c.args.entered)) c.args.options.now) c.args.directories.now
    c.found_in_all.result c.if-directories-ne1.true c.found_in_all.ensures.found

pub returns-then-directories-ne1-clause-none : goal.returns-then-directories-ne1-clause-none
returns-then-directories-ne1-clause-none g c =
    none_many (λ d. Walks (g.Y.Tree.Tree.lists (g.Y.System.tree c.args.system.now d c.args.entered))
    (g.Y.Tree.Tree.gives (g.Y.System.tree c.args.system.now d c.args.entered)) c.args.options.now) c.args.directories.now
    c.found_in_all.result c.if-directories-ne1.true c.found_in_all.ensures.none

pub returns-clause-files : goal.returns-clause-files
returns-clause-files g c =
    one_listed (λ d. g.Y.Tree.Tree.lists (g.Y.System.tree c.args.system.now d c.args.entered))
    (λ d. g.Y.Tree.Tree.gives (g.Y.System.tree c.args.system.now d c.args.entered)) c.args.options.now _ c.in_ok-report.report
    c.in_ok-report.ensures
