use Rattle.std.proofs.Common.{◌≡◌, ◌≤◌, length}
use Rattle.lc_rules.specs.{AttrLines.trimmed, AttrWords.IsEndOf}
use Rattle.lc_rules.proofs.attr_words.trimmed.Given as goal

abbrev pub invariant-bytes : goal.invariant-bytes
invariant-bytes l = record {
  same : trimmed l.line ≡ trimmed l.rest;
  shorter : length l.rest ≤ length l.line;
  end : IsEndOf l.rest l.line;
}

abbrev pub decreases-bytes : goal.decreases-bytes
decreases-bytes l = length l.rest
