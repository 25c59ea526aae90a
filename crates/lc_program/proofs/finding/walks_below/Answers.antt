use Rattle.std.proofs.Common.{inl, map}
use Rattle.lc_program.proofs.{FoundNames.{contains_name, passed_on}, NamesTaken.named_more}
use Rattle.lc_program.specs.Finds.{EndsAmong, IsWalkedBelow}
use Rattle.lc_walk.specs.Walks.{Walks}
use Rattle.lc_program.proofs.finding.walks_below.Goals as goal

pub returns-in_err-walk_below-clause-none : goal.returns-in_err-walk_below-clause-none
returns-in_err-walk_below-clause-none g c =
    passed_on (EndsAmong (λ d. Walks (g.Y.Tree.Tree.lists (g.Y.System.tree c.args.system.now d c.args.entered))
    (g.Y.Tree.Tree.gives (g.Y.System.tree c.args.system.now d c.args.entered)) c.args.options.now)
    (map (λ d. d.now) c.args.directories.now)) c.from_residual-in_err-walk_below.result c.in_err-walk_below.field-0.0
    c.from_residual-in_err-walk_below.ensures.1
    (inl (
      _,
      contains_name c.args.directories.now c.loop-directory.directory-index _ c.loop-directory-test.true,
      c.in_err-walk_below.ensures.none,
    ))

pub loop-directory-preserved : goal.loop-directory-preserved
loop-directory-preserved g c =
    named_more (IsWalkedBelow (λ d. Walks (g.Y.Tree.Tree.lists (g.Y.System.tree c.args.system.now d c.args.entered))
    (g.Y.Tree.Tree.gives (g.Y.System.tree c.args.system.now d c.args.entered)) c.args.options.now))
    c.args.directories.now c.loop-directory.directory-index _ c.loop-directory.reports.items c.push.new.self.items
    c.in_ok-walk_below.field-0 c.loop-directory-test.true c.loop-directory.invariant c.in_ok-walk_below.ensures.found
    c.in_ok-push.ensures.items
