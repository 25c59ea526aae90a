use Rattle.std.proofs.Common.{None}
use Rattle.lc_rules.specs.Resolving.{ReadsAssignments, stacked, still_to_read}
use Rattle.lc_rules.proofs.resolver.decide_pending.Given as goal

abbrev pub invariant-words : goal.invariant-words
invariant-words l =
    ReadsAssignments l.query (stacked l.initial.resolver.pending.items) l.initial.resolver None (stacked l.resolver.pending.items)
    l.resolver

abbrev pub decreases-words : goal.decreases-words
decreases-words l = still_to_read l.query l.resolver
