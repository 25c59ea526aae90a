use Rattle.lc_paths.specs.Explanations.DirStacks.{AreFirstOf}
use Rattle.lc_paths.proofs.explaining.stack_cache.StackCache.drop_beside.Given as goal

abbrev pub invariant-loop-count : goal.invariant-loop-count
invariant-loop-count l = AreFirstOf l.self l.stack
