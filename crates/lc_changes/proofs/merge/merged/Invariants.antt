use Rattle.std.proofs.Common.{◌+◌, length}
use Rattle.lc_changes.proofs.Merging.{IsMerging}
use Rattle.lc_changes.proofs.merge.merged.Given as goal

abbrev pub invariant-keys : goal.invariant-keys
invariant-keys g l =
    let k = g.X.Keyed in IsMerging k.key k.cmp k.line_key k.is_of l.initial.olds l.initial.news l.lines.items l.olds l.news

abbrev pub decreases-keys : goal.decreases-keys
decreases-keys g l = length l.olds + length l.news
