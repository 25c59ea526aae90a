use Rattle.std.proofs.Common.{◌≡◌, take}
use Rattle.lc_rules.proofs.chain_files.share_entries.Given as goal

abbrev pub invariant-loop-entry : goal.invariant-loop-entry
invariant-loop-entry g l = l.shared.items ≡ take l.entry-index l.entries
