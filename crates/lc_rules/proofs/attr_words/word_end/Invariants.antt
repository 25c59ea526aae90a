use Rattle.std.proofs.Common.{◌≡◌, ◌<◌, ℕ, get_or, false}
use Rattle.lc_rules.specs.AttrWords.{is_white}
use Rattle.lc_rules.proofs.attr_words.word_end.Given as goal

abbrev pub invariant-loop-i : goal.invariant-loop-i
invariant-loop-i l = (k : ℕ) → k < l.i → is_white (get_or l.bytes k 0) ≡ false
