use Rattle.std.proofs.Common.{◌≡◌, subst, sym}
use Rattle.std.specs.Option.{MatchOption}
use Rattle.lc_reports.proofs.NumbersInTurn.{AddUpTo, one_more, one_more_fits}
use Rattle.lc_reports.specs.Gathered.{NumbersFit, numbers_of}
use Rattle.lc_reports.proofs.gathered.Numbers.of.Goals as goal

pub reports-preserved : goal.reports-preserved
reports-preserved c =
    subst (λ n. AddUpTo n c.in-Some.others.now c.args.reports.now) (sym c.in_ok-numbers.ensures)
    (one_more c.reports.numbers c.in-Some.report.now c.in-Some.others.now c.args.reports.now
    (subst (λ rs. AddUpTo c.reports.numbers rs c.args.reports.now) c.in-Some.ensures.cases.0 c.reports.invariant))

pub returns-in_err-numbers : goal.returns-in_err-numbers
returns-in_err-numbers c =
    subst (λ o. MatchOption o (NumbersFit (numbers_of c.args.reports.now) → ⊥) (λ n. n ≡ numbers_of c.args.reports.now))
    (sym c.from_residual.ensures)
    (λ fits. c.in_err-numbers.ensures (one_more_fits c.reports.numbers c.in-Some.report.now c.in-Some.others.now c.args.reports.now
    (subst (λ rs. AddUpTo c.reports.numbers rs c.args.reports.now) c.in-Some.ensures.cases.0 c.reports.invariant) fits))
