use Rattle.std.proofs.Common.{rules}
use Rattle.lc_rules.proofs.LinePlaces.{end_more}
use Rattle.lc_rules.proofs.attr_words.trimmed.Goals as goal

pub bytes-preserved : goal.bytes-preserved
bytes-preserved c = record {
  same = search rules;
  shorter = search rules;
  end = end_more _ _ _ _ c.in-Some.ensures.cases.0 c.bytes.invariant.end;
}
