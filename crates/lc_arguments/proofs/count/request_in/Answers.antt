use Rattle.std.proofs.Common.{codes, inl, inr, refl}
use Rattle.clap.specs.{Matches.found_of, Walk.rows_of}
use Rattle.lc_arguments.proofs.{WordFaults.flag_of, Misnaming.passed_on}
use Rattle.lc_arguments.specs.Options.{max_dirs, max_threads}
use Rattle.lc_arguments.proofs.count.request_in.Goals as goal

pub returns-in_err-walk : goal.returns-in_err-walk
returns-in_err-walk c =
    passed_on _ _ _ c.from_residual.result c.in_err-walk.field-0.0 (λ bad. inl bad)
    c.from_residual.ensures.1 c.in_err-walk.ensures

pub returns-in_err-directories : goal.returns-in_err-directories
returns-in_err-directories c =
    passed_on _ _ _ c.from_residual-in_err-directories.result c.in_err-directories.field-0.0 (λ bad. inr (inl bad))
    c.from_residual-in_err-directories.ensures.1 c.in_err-directories.ensures

pub returns-in_err-table : goal.returns-in_err-table
returns-in_err-table c =
    passed_on _ _ _ c.from_residual-in_err-table.result c.in_err-table.field-0.0
    (λ bad. inr (inr (inl bad)))
    c.from_residual-in_err-table.ensures.1 c.in_err-table.ensures

pub returns-in_err-chosen : goal.returns-in_err-chosen
returns-in_err-chosen c =
    passed_on _ _ _ c.from_residual-in_err-chosen.result c.in_err-chosen.field-0.0
    (λ none. inr (inr (inr none))) c.from_residual-in_err-chosen.ensures.1 c.in_err-chosen.ensures

pub returns : goal.returns
returns c = λ are.
    let f = found_of c.args.matches.now in
    let rows = rows_of f in
    record {
      walk = c.in_ok-walk.ensures (record { threads = are (codes "threads") max_threads refl; max_dirs = are (codes "max-dirs") max_dirs refl });
      left_out = flag_of rows f (codes "left-out") c.get_flag.result refl c.get_flag.ensures.value c.get_flag.ensures.other;
      table = c.in_ok-table.ensures;
      chosen = c.in_ok-chosen.ensures.0.chosen;
      one_sided = c.in_ok-chosen.ensures.1;
      fail_if_any = flag_of rows f (codes "fail-if-any") c.get_flag-2.result refl c.get_flag-2.ensures.value c.get_flag-2.ensures.other;
      directories = c.in_ok-directories.ensures;
    }
