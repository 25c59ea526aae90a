use Rattle.std.proofs.Common.{◌∙◌, sym, arith}
use Rattle.lc_rules.proofs.AttrReading.{text_plain, text_escape}
use Rattle.lc_rules.proofs.attr_quotes.unquoted.Goals as goal

pub bytes-preserved-in-92 : goal.bytes-preserved-in-92
bytes-preserved-in-92 c = c.bytes.invariant ∙ text_escape _ _ _ _ _ _ _ c.in-Some.ensures.cases.0 c.in-92.is
    (sym c.in-Some-escape.ensures.is) c.in_ok-push-in-92.ensures.items

pub bytes-preserved : goal.bytes-preserved
bytes-preserved c = c.bytes.invariant ∙ text_plain _ _ _ _ _ c.in-Some.ensures.cases.0 (λ z. omega arith)
    (λ z. omega arith) c.in_ok-push-in_default-b.ensures.items
