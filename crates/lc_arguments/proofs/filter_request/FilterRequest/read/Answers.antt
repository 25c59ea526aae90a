use Rattle.std.proofs.Common.{codes, refl}
use Rattle.clap.specs.{Matches.found_of, Walk.rows_of}
use Rattle.lc_arguments.specs.declared.repeated.Repeated.TheVariants.{Attributes, Excluded, Included}
use Rattle.lc_arguments.proofs.{Misnaming.refused_with, WordFaults.{flag_of, text_of}}
use Rattle.lc_arguments.proofs.filter_request.FilterRequest.read.Goals as goal

pub returns-in-Err : goal.returns-in-Err
returns-in-Err c = refused_with _ _ c.in-Err.no (λ bad. (Attributes, bad)) c.in-Err.ensures

pub returns-in-Err-values_in : goal.returns-in-Err-values_in
returns-in-Err-values_in c = refused_with _ _ c.in-Err-values_in.no (λ bad. (Excluded, bad)) c.in-Err-values_in.ensures

pub returns-in-Err-values_in-2 : goal.returns-in-Err-values_in-2
returns-in-Err-values_in-2 c = refused_with _ _ c.in-Err-values_in-2.no (λ bad. (Included, bad)) c.in-Err-values_in-2.ensures

pub returns : goal.returns
returns c =
    let f = found_of c.args.matches.now in
    record {
      exclude_from = text_of (rows_of f) f (codes "exclude-from") c.get_str.result refl c.get_str.ensures;
      attributes_from = text_of (rows_of f) f (codes "attributes-from") c.get_str-2.result refl c.get_str-2.ensures;
      archive = flag_of (rows_of f) f (codes "archive") c.get_flag.result refl c.get_flag.ensures.value c.get_flag.ensures.other;
      without = c.in-Ok.ensures;
      exclude = c.in-Ok-values_in.ensures;
      include = c.in-Ok-values_in-2.ensures;
      no_ignore = flag_of (rows_of f) f (codes "no-ignore") c.get_flag-2.result refl c.get_flag-2.ensures.value c.get_flag-2.ensures.other;
    }
