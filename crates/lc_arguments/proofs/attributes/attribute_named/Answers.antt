use Rattle.std.proofs.Common.{◌∙◌, ap, option_map, sym}
use Rattle.lc_arguments.proofs.AsciiNames.{front_utf8}
use Rattle.lc_arguments.proofs.attributes.attribute_named.Goals as goal

pub returns-in-Err : goal.returns-in-Err
returns-in-Err c =
    absurd (c.in-Err.ensures.cases.0
    (front_utf8 c.args.name.now c.in_ok-attribute.attribute.now
    (sym c.after_front.ensures ∙ ap (option_map (λ rest. rest.now)) c.in_ok-attribute.was)
    (sym c.is_attribute_name.ensures ∙ c.if-not-is_attribute_name.false)))
