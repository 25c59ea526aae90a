use Rattle.std.proofs.Common.{◌∙◌, sym}
use Rattle.lc_rules.proofs.AttrReading.{name_is}
use Rattle.lc_rules.proofs.attr_words.is_attribute_name.Goals as goal

pub returns-then-first-ne45 : goal.returns-then-first-ne45
returns-then-first-ne45 c = c.has_name_bytes.ensures ∙ sym (name_is _ _ _ c.in-Some.ensures.cases.0 c.if-first-ne45.true)
