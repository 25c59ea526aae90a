use Rattle.std.proofs.Common.{codes, inl, inr, refl}
use Rattle.clap.specs.{Matches.found_of, Walk.rows_of}
use Rattle.lc_arguments.proofs.{WordFaults.{flag_of, text_or}, Misnaming.passed_on}
use Rattle.lc_arguments.specs.Options.{max_dirs, max_threads}
use Rattle.lc_arguments.proofs.diff.request_in.Goals as goal

pub returns-in_err-walk : goal.returns-in_err-walk
returns-in_err-walk c =
    passed_on _ _ _ c.from_residual.result c.in_err-walk.field-0.0 (λ bad. inl bad)
    c.from_residual.ensures.1 c.in_err-walk.ensures

pub returns-in_err-table : goal.returns-in_err-table
returns-in_err-table c =
    passed_on _ _ _ c.from_residual-in_err-table.result c.in_err-table.field-0.0
    (λ bad. inr (inl bad))
    c.from_residual-in_err-table.ensures.1 c.in_err-table.ensures

pub returns-in_err-chosen : goal.returns-in_err-chosen
returns-in_err-chosen c =
    passed_on _ _ _ c.from_residual-in_err-chosen.result c.in_err-chosen.field-0.0 (λ none. inr (inr none))
    c.from_residual-in_err-chosen.ensures.1 c.in_err-chosen.ensures

pub returns : goal.returns
returns c = λ are.
    let f = found_of c.args.matches.now in
    let rows = rows_of f in
    let table = c.in_ok-table.ensures.plain in
    record {
      walk = c.in_ok-walk.ensures (record { threads = are (codes "threads") max_threads refl; max_dirs = are (codes "max-dirs") max_dirs refl });
      table = record {
        within = table.within;
        named = record {
          depth = table.named.depth;
          depth_is = table.named.depth_is;
          at = record {
            format_is = table.named.at.format_is;
            by_is = table.named.at.by_is;
            levels_is = table.named.at.levels_is;
            sort_is = table.named.at.sort_is;
          };
          top = table.named.top;
        };
        files = table.files;
      };
      no_share = refl;
      chosen = c.in_ok-chosen.ensures.chosen;
      changes = c.in_ok-chosen.ensures.changes;
      fail_if_any = flag_of rows f (codes "fail-if-any") c.get_flag.result refl c.get_flag.ensures.value c.get_flag.ensures.other;
      all = flag_of rows f (codes "all") c.get_flag-2.result refl c.get_flag-2.ensures.value c.get_flag-2.ensures.other;
      old = text_or rows f (codes "OLD") c.get_str.result _ c.unwrap_or.result refl c.get_str.ensures refl c.unwrap_or.ensures;
      new = text_or rows f (codes "NEW") c.get_str-2.result _ c.unwrap_or-2.result refl c.get_str-2.ensures refl c.unwrap_or-2.ensures;
    }
