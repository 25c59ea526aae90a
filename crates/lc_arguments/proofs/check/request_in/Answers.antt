use Rattle.std.proofs.Common.{codes, refl}
use Rattle.clap.specs.{Matches.found_of, Walk.rows_of}
use Rattle.lc_arguments.proofs.WordFaults.{flag_of, text_or}
use Rattle.lc_arguments.proofs.check.request_in.Goals as goal

pub returns : goal.returns
returns c =
    let f = found_of c.args.matches.now in
    let rows = rows_of f in
    record {
      explain = flag_of rows f (codes "explain") c.get_flag.result refl c.get_flag.ensures.value c.get_flag.ensures.other;
      null = flag_of rows f (codes "null") c.get_flag-2.result refl c.get_flag-2.ensures.value c.get_flag-2.ensures.other;
      file = text_or rows f (codes "FILE") c.get_str.result _ c.unwrap_or.result refl c.get_str.ensures refl c.unwrap_or.ensures;
    }
