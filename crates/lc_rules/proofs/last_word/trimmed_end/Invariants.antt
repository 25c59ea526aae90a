use Rattle.std.proofs.Common.{◌≡◌, ◌≤◌, length}
use Rattle.lc_rules.specs.AttrWords.{words}
use Rattle.lc_rules.proofs.last_word.trimmed_end.Given as goal

abbrev pub invariant-bytes : goal.invariant-bytes
invariant-bytes l = record { same : words l.rest ≡ words l.bytes; shorter : length l.rest ≤ length l.bytes }

abbrev pub decreases-bytes : goal.decreases-bytes
decreases-bytes l = length l.rest
