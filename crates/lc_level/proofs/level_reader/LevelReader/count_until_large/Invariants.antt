use Rattle.std.proofs.Common.{◌≡◌}
use Rattle.lc_level.specs.CountedParts.{CountsSome}
use Rattle.lc_level.proofs.level_reader.LevelReader.count_until_large.Given as goal

abbrev pub invariant-loop-name : goal.invariant-loop-name
invariant-loop-name g l =
    (goal.iterator-loop-name g).can_next l.name-iterator
    × (goal.iterator-loop-name g).is_finite l.name-iterator
    × (l.scratch.path.directory ≡ l.job.path)
    × CountsSome (g.T.Tree.gives l.self.tree.now) l.self.filters.now l.job l.yielded l.fn.absent.items l.rest.items l.found
