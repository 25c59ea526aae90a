use Rattle.std.proofs.Common.{◌≡◌, length}
use Rattle.std.specs.List.{filter_map}
use Rattle.lc_rules.specs.Chains.{entry_file}
use Rattle.lc_rules.proofs.chain_files.FilesLeft.split_first.Given as goal

abbrev pub invariant-entries : goal.invariant-entries
invariant-entries g l = l.fn.self ≡ filter_map entry_file l.rest

abbrev pub decreases-entries : goal.decreases-entries
decreases-entries g l = length l.rest
