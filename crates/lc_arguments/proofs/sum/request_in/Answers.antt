use Rattle.std.proofs.Common.{codes, inl, inr, refl}
use Rattle.clap.specs.{Matches.found_of, Walk.rows_of}
use Rattle.lc_arguments.proofs.{WordFaults.flag_of, Misnaming.passed_on}
use Rattle.lc_arguments.proofs.sum.request_in.Goals as goal

pub returns-in_err-table : goal.returns-in_err-table
returns-in_err-table c =
    passed_on _ _ _ c.from_residual.result c.in_err-table.field-0.0
    (λ bad. inr (inl bad))
    c.from_residual.ensures.1 c.in_err-table.ensures

pub returns-in_err-chosen : goal.returns-in_err-chosen
returns-in_err-chosen c =
    passed_on _ _ _ c.from_residual-in_err-chosen.result c.in_err-chosen.field-0.0
    (λ none. inr (inr none)) c.from_residual-in_err-chosen.ensures.1 c.in_err-chosen.ensures

pub returns-in_err-reports : goal.returns-in_err-reports
returns-in_err-reports c =
    passed_on _ _ _ c.from_residual-in_err-reports.result c.in_err-reports.field-0.0 (λ bad. inl bad)
    c.from_residual-in_err-reports.ensures.1 c.in_err-reports.ensures

pub returns : goal.returns
returns c = λ are.
    let f = found_of c.args.matches.now in
    let rows = rows_of f in
    record {
      left_out = flag_of rows f (codes "left-out") c.get_flag.result refl c.get_flag.ensures.value c.get_flag.ensures.other;
      null = flag_of rows f (codes "null") c.get_flag-2.result refl c.get_flag-2.ensures.value c.get_flag-2.ensures.other;
      table = c.in_ok-table.ensures;
      chosen = c.in_ok-chosen.ensures.0.chosen;
      one_sided = c.in_ok-chosen.ensures.1;
      fail_if_any = flag_of rows f (codes "fail-if-any") c.get_flag-3.result refl c.get_flag-3.ensures.value c.get_flag-3.ensures.other;
      reports = c.in_ok-reports.ensures;
    }
