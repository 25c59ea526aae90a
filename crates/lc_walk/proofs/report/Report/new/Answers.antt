use Rattle.std.proofs.Common.{subst, sym}
use Rattle.lc_walk.specs.Classes.{ClassesFit, classes_of}
use Rattle.lc_walk.proofs.Classes.{classes_fit}
use Rattle.lc_walk.proofs.report.Report.new.Goals as goal

pub unreachable-requires : goal.unreachable-requires
unreachable-requires c =
    c.in_default.ensures (subst (λ rs. ClassesFit (classes_of rs)) (sym c.deref.ensures.value)
    (classes_fit c.into_rows-rows.result.items c.into_rows-rows.ensures.fits))
