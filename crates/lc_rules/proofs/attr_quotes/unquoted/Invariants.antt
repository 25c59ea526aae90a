use Rattle.std.proofs.Common.{◌≡◌, length}
use Rattle.lc_rules.specs.AttrQuotes.{unquoted}
use Rattle.lc_rules.proofs.AttrReading.{onto_text}
use Rattle.lc_rules.proofs.attr_quotes.unquoted.Given as goal

abbrev pub invariant-bytes : goal.invariant-bytes
invariant-bytes l = unquoted 0 l.bytes ≡ onto_text l.text.items (unquoted 0 l.rest)

abbrev pub decreases-bytes : goal.decreases-bytes
decreases-bytes l = length l.rest
