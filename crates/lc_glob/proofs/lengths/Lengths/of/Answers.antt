use Rattle.std.proofs.{Common.{arith, sym, subst}, lemmas.List.Elements.All-nil}
use Rattle.lc_glob.specs.{Lengths.{IsBetween, AreBetween}, declared.lengths.Lengths.Lengths}
use Rattle.lc_glob.proofs.Sizing.{more_between}
use Rattle.lc_glob.proofs.lengths.Lengths.of.Goals as goal

pub segments-preserved : goal.segments-preserved
segments-preserved c = λ lengths short long rest.
    let first = c.min-shortest.ensures in
    let last = c.max-longest.ensures in
    c.segments.invariant lengths (omega arith) (omega arith)
    (more_between lengths _ _ _ c.in-Some.ensures (omega arith, omega arith) rest)

pub returns : goal.returns
returns c =
    let lengths : Lengths = record { shortest = c.segments.shortest; longest = c.segments.longest } in
    c.segments.invariant lengths (omega arith) (omega arith)
    (subst (AreBetween lengths) (sym c.in_default.ensures) (All-nil (IsBetween lengths)))
