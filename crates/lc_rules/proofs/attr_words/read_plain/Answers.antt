use Rattle.std.proofs.Common.{◌∙◌, sym, rules}
use Rattle.lc_rules.proofs.AttrReading.{plain_none, plain_some}
use Rattle.lc_rules.proofs.attr_words.read_plain.Goals as goal

pub returns-in_default : goal.returns-in_default
returns-in_default c = c.named.ensures ∙ sym (plain_none _ c.in_default.ensures)

pub returns : goal.returns
returns c = rw (plain_some _ _ c.in-Some.ensures) (search rules)
