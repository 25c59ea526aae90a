use Rattle.std.proofs.Common.{◌≡◌, ◌++◌, map}
use Rattle.lc_walk.specs.Running.{AllOver, TalliesAll}
use Rattle.lc_walk.proofs.workers.gather.Given as goal

abbrev pub invariant-loop-worked : goal.invariant-loop-worked
invariant-loop-worked g l =
    (l.yielded ++ l.worked-iterator.rest.items ≡ l.fn.workers.items)
    × AllOver l.yielded
    × (l.gathered.passes.items ≡ map (λ w. w.pass) l.yielded)
    × TalliesAll l.yielded l.gathered.tally
