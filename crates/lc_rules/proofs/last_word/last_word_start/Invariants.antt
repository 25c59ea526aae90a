use Rattle.std.proofs.Common.{◌≡◌, ◌≤◌, length, false, drop}
use Rattle.std.specs.List.{list_any}
use Rattle.lc_rules.specs.AttrWords.{is_white}
use Rattle.lc_rules.proofs.last_word.last_word_start.Given as goal

abbrev pub invariant-bytes : goal.invariant-bytes
invariant-bytes l = record { within : l.start ≤ length l.bytes; black : list_any is_white (drop l.start l.bytes) ≡ false }

abbrev pub decreases-bytes : goal.decreases-bytes
decreases-bytes l = l.start
