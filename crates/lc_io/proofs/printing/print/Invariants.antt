use Rattle.std.proofs.Common.{ℕ, List, length}
use Rattle.lc_io.specs.Writes.{TakesCounts}
use Rattle.lc_io.proofs.printing.print.Given as goal

abbrev pub decreases-loop-rest : goal.decreases-loop-rest
decreases-loop-rest g l = length l.rest

abbrev pub invariant-loop-rest : goal.invariant-loop-rest
invariant-loop-rest g l = (counts : List ℕ) × TakesCounts g.O.Sink.may_take l.initial.out l.fn.text counts l.out l.rest
