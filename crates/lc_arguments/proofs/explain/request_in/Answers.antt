use Rattle.std.proofs.Common.{◌∙◌, ap, codes, map, refl}
use Rattle.clap.specs.{Matches.found_of, Walk.rows_of}
use Rattle.lc_arguments.proofs.{WordFaults.{flag_of, text_or, texts_of}, Misnaming.passed_on}
use Rattle.lc_arguments.proofs.explain.request_in.Goals as goal

pub returns-in_err-filters : goal.returns-in_err-filters
returns-in_err-filters c =
    passed_on _ _ _ c.from_residual.result c.in_err-filters.field-0.0 (λ bad. bad) c.from_residual.ensures.1 c.in_err-filters.ensures

pub returns : goal.returns
returns c = λ are.
    let f = found_of c.args.matches.now in
    let rows = rows_of f in
    record {
      filters = c.in_ok-filters.ensures;
      null = flag_of rows f (codes "null") c.get_flag.result refl c.get_flag.ensures.value c.get_flag.ensures.other;
      directory = text_or rows f (codes "DIR") c.get_str.result _ c.unwrap_or-2.result refl c.get_str.ensures refl c.unwrap_or-2.ensures;
      paths = ap (map (λ path. path.now)) (c.in-Ok.ensures.items_if_clones_equal (λ x y same. same))
          ∙ texts_of rows f (codes "PATH") c.get_strs.result _ c.unwrap_or.result refl c.get_strs.ensures refl c.unwrap_or.ensures;
    }
