use Rattle.std.proofs.Common.{arith, codes, inl, inr, refl}
use Rattle.std.specs.Str.Parse.{ParsesUnsigned, ExplainsUnsignedError, HasUnsignedDigitsIfOk}
use Rattle.clap.specs.{Matches.{found_of, one_text}, Walk.rows_of}
use Rattle.lc_arguments.proofs.{WordFaults.{flag_of, number_of, text_of}, Misnaming.passed_on, ReadValues.number_read}
use Rattle.lc_arguments.proofs.walk_request.WalkRequest.read.Goals as goal

pub returns-in_err-filters : goal.returns-in_err-filters
returns-in_err-filters c =
    passed_on _ _ _ c.from_residual.result c.in_err-filters.field-0.0 (λ bad. inl bad)
    c.from_residual.ensures.1 c.in_err-filters.ensures

pub returns-in_err-only : goal.returns-in_err-only
returns-in_err-only c =
    passed_on _ _ _ c.from_residual-in_err-only.result c.in_err-only.field-0.0 (λ bad. inr bad)
    c.from_residual-in_err-only.ensures.1 c.in_err-only.ensures

pub returns : goal.returns
returns c = λ within.
    let f = found_of c.args.matches.now in
    let rows = rows_of f in
    let threads = number_read _ (λ bs r. ParsesUnsigned 32 10 bs r × ExplainsUnsignedError 10 bs r × HasUnsignedDigitsIfOk bs r) 1 16 4
    (codes "4") (one_text f (codes "threads")) c.get_one.result c.unwrap_or.result c.get_one.ensures.none c.get_one.ensures.value
    (λ u x h. h.0) (omega arith) within.threads (omega arith) (omega arith) refl c.unwrap_or.ensures in
    let max_dirs = number_read _ (λ bs r. ParsesUnsigned 32 10 bs r × ExplainsUnsignedError 10 bs r × HasUnsignedDigitsIfOk bs r) 1
    1048576 65536 (codes "65536") (one_text f (codes "max-dirs")) c.get_one-2.result c.unwrap_or-2.result c.get_one-2.ensures.none
    c.get_one-2.ensures.value (λ u x h. h.0) (omega arith) within.max_dirs (omega arith) (omega arith) refl c.unwrap_or-2.ensures in
    record {
      within = record { some_threads = threads.0; threads = threads.1; some_dirs = max_dirs.0; max_dirs = max_dirs.1 };
      threads = number_of rows f (codes "threads") (codes "4") c.unwrap_or.result refl threads.2;
      max_dirs = number_of rows f (codes "max-dirs") (codes "65536") c.unwrap_or-2.result refl max_dirs.2;
      filters = c.in_ok-filters.ensures;
      only = c.in_ok-only.ensures;
      only_from = text_of rows f (codes "only-from") c.get_str.result refl c.get_str.ensures;
      null = flag_of rows f (codes "null") c.get_flag.result refl c.get_flag.ensures.value c.get_flag.ensures.other;
      one_file_system = flag_of rows f (codes "one-file-system") c.get_flag-2.result refl c.get_flag-2.ensures.value
          c.get_flag-2.ensures.other;
    }
