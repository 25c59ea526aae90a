use Rattle.std.proofs.Common.{◌≡◌}
use Rattle.lc_level.specs.{CountedNames.IsCounted, Classified.bytes_of}
use Rattle.lc_level.proofs.level_reader.LevelReader.count.Given as goal

abbrev pub invariant-loop-name : goal.invariant-loop-name
invariant-loop-name g l =
    (goal.iterator-loop-name g).can_next l.name-iterator
    × (goal.iterator-loop-name g).is_finite l.name-iterator
    × (l.scratch.path.directory ≡ l.job.path)
    × IsCounted (g.T.Tree.gives l.self.tree.now) l.self.filters.now l.job (bytes_of l.yielded) l.fn.absent.items l.found
