use Rattle.std.proofs.{Common.{◌<◌, [], ◌∷◌, ◌++◌, arith}, lemmas.List.take_rest}
use Rattle.lc_io.proofs.Taking.{takes_more}
use Rattle.lc_io.proofs.printing.print.Goals as goal

pub loop-rest-preserved : goal.loop-rest-preserved
loop-rest-preserved g c =
    let count = c.in_ok-count.count in
    let rest = c.loop-rest.rest.now in
    let some : 0 < count = omega (arith, c.if-count-eq0.false) in
    let took = c.in_ok-count.ensures in (
      c.loop-rest.invariant.0 ++ count ∷ [],
      rw (take_rest rest count)
          (takes_more g.O.Sink.may_take c.args.out.now c.args.text.now c.loop-rest.invariant.0 c.loop-rest.out rest count
          c.write.new.self c.loop-rest.invariant.1 some took.within took.taken),
    )
