use Rattle.std.proofs.Common.{inl, inr, refl}
use Rattle.lc_program.proofs.FoundNames.{passed_on}
use Rattle.lc_program.specs.declared.cause.Cause.TheVariants.{Memory}
use Rattle.lc_program.proofs.counting.prepared.Goals as goal

pub returns-in_err-named-clause-unprepared : goal.returns-in_err-named-clause-unprepared
returns-in_err-named-clause-unprepared g c =
    passed_on _ c.from_residual.result Memory c.from_residual.ensures.1 (inl (inr refl, refl))

pub returns-in_err-filters-clause-unprepared : goal.returns-in_err-filters-clause-unprepared
returns-in_err-filters-clause-unprepared g c =
    passed_on _ c.from_residual-in_err-filters.result c.in_err-filters.field-0.0 c.from_residual-in_err-filters.ensures.1
    (inl (inl c.in_err-filters.ensures, refl))

pub returns-in_err-list-clause-unprepared : goal.returns-in_err-list-clause-unprepared
returns-in_err-list-clause-unprepared g c =
    passed_on _ c.from_residual-in_err-list.result c.in_err-list.field-0.0 c.from_residual-in_err-list.ensures.1
    (inr (inr (c.in_err-list.field-0.0, c.in_err-list.ensures, refl)))
