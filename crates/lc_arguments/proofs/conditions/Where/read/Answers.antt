use Rattle.std.proofs.Common.{◌∙◌, ap, ap₂, codes, refl}
use Rattle.clap.specs.{Matches.found_of, Walk.rows_of}
use Rattle.lc_arguments.specs.{AttributeWords.attributes_asked, ConditionWords.changes_of}
use Rattle.lc_arguments.proofs.{ConditionsRead.{all_written, none_written, too_many}, Misnaming.refused_with}
use Rattle.lc_arguments.proofs.WordFaults.{flag_of, text_of, texts_of}
use Rattle.lc_arguments.proofs.conditions.Where.read.Goals as goal

pub returns-in-Err : goal.returns-in-Err
returns-in-Err c =
    let f = found_of c.args.matches.now in
    refused_with _ _ c.in-Err.no (too_many _ _
    (texts_of (rows_of f) f (codes "where") c.get_strs.result _ c.unwrap_or-texts.result refl c.get_strs.ensures refl
    c.unwrap_or-texts.ensures)) c.in-Err.ensures

pub returns : goal.returns
returns c =
    let f = found_of c.args.matches.now in
    refused_with _ _ c.in-Err-conditions_of.no (none_written _ _
    (texts_of (rows_of f) f (codes "where") c.get_strs.result _ c.unwrap_or-texts.result refl c.get_strs.ensures refl
    c.unwrap_or-texts.ensures)) c.in-Err-conditions_of.ensures

pub returns-in-Ok-conditions_of : goal.returns-in-Ok-conditions_of
returns-in-Ok-conditions_of c =
    let f = found_of c.args.matches.now in
    let texts = texts_of (rows_of f) f (codes "where") c.get_strs.result _ c.unwrap_or-texts.result refl c.get_strs.ensures refl
    c.unwrap_or-texts.ensures in
    record {
      chosen = record {
        columns = c.in-Ok.ensures.0
            ∙ ap₂ attributes_asked (text_of (rows_of f) f (codes "by") c.get_str-by.result refl c.get_str-by.ensures) texts;
        allowed = all_written _ _ texts c.in-Ok-conditions_of.ensures.2 c.in-Ok.ensures.1;
        no_binary = c.get_flag-no_binary.result;
        flag = flag_of (rows_of f) f (codes "no-binary") c.get_flag-no_binary.result refl c.get_flag-no_binary.ensures.value
            c.get_flag-no_binary.ensures.other;
        are = rw (c.deref.ensures.value, texts) at c.in-Ok-conditions_of.ensures.0;
      };
      changes = c.in-Ok-conditions_of.ensures.1 ∙ ap changes_of texts;
    }
