use Rattle.std.proofs.Common.{◌≡◌, ◌++◌, string_bytes}
use Rattle.lc_formats.specs.Shares.{blocks}
use Rattle.lc_formats.proofs.shares.push_blocks.Given as goal

abbrev pub invariant-copies : goal.invariant-copies
invariant-copies l = string_bytes l.text ++ blocks l.rest ≡ string_bytes l.initial.text ++ blocks l.count

abbrev pub decreases-copies : goal.decreases-copies
decreases-copies l = l.rest
