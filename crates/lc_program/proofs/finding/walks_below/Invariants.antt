use Rattle.std.proofs.Common.{map, take}
use Rattle.std.specs.List.{AllZip}
use Rattle.lc_program.specs.Finds.{IsWalkedBelow}
use Rattle.lc_walk.specs.Walks.{Walks}
use Rattle.lc_program.proofs.finding.walks_below.Given as goal

abbrev pub invariant-loop-directory : goal.invariant-loop-directory
invariant-loop-directory g l =
    AllZip (IsWalkedBelow (λ d. Walks (g.Y.Tree.Tree.lists (g.Y.System.tree l.system d l.entered))
    (g.Y.Tree.Tree.gives (g.Y.System.tree l.system d l.entered)) l.options))
    (map (λ d. d.now) (take l.directory-index l.directories)) l.reports.items
