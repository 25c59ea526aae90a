use Rattle.std.proofs.Common.{◌∙◌, sym, rules}
use Rattle.lc_rules.proofs.LastWords.{words_before}
use Rattle.lc_rules.proofs.last_word.trimmed_end.Goals as goal

pub bytes-preserved : goal.bytes-preserved
bytes-preserved c = record {
  same = words_before _ _ _ c.in-Some.ensures.cases.0 (sym c.is_white.ensures ∙ c.if-not-is_white.false) ∙ c.bytes.invariant.same;
  shorter = search rules;
}
