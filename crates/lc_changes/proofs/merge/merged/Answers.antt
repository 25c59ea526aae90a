use Rattle.lc_changes.proofs.Merging.{merging_last, merging_next}
use Rattle.lc_changes.proofs.merge.merged.Goals as goal

pub returns-in_default : goal.returns-in_default
returns-in_default g c =
    let k = g.X.Keyed in
    merging_last k.key k.cmp k.line_key k.is_of c.args.olds.now c.args.news.now c.keys.lines.items c.keys.olds.now c.keys.news.now _ _
    c.next.ensures c.in_default.ensures c.keys.invariant

pub keys-preserved : goal.keys-preserved
keys-preserved g c =
    let k = g.X.Keyed in
    let laws = g.met.X.Keyed in
    merging_next k.key k.cmp k.line_key k.is_of laws.total laws.exact c.args.olds.now c.args.news.now c.keys.lines.items
    c.push.new.self.items c.keys.olds.now c.keys.news.now _ _ c.in-Some.line c.left_of-olds.result.now c.left_of-news.result.now
    c.next.ensures c.in-Some.ensures c.in_ok-push.ensures.items c.left_of-olds.ensures c.left_of-news.ensures c.keys.invariant
