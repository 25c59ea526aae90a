use Rattle.std.proofs.Common.{arith, sym, ap₂, ◌∙◌, ◌&&◌, nat_eq}
use Rattle.lc_level.proofs.MatchedParents.{none_matched, some_matched}
use Rattle.lc_level.proofs.narrowing.included.has_matched_parent.Goals as goal

pub returns-then-matches : goal.returns-then-matches
returns-then-matches c =
    sym (some_matched c.args.patterns.now c.args.path.now c.loop-len.len (omega (arith, c.loop-len-test.true, c.loop-len.auto.len-end))
    (ap₂ (λ b m. nat_eq b 47 && m) c.if-path-len-eq47.true (sym c.matches.ensures ∙ c.if-matches.true)))

pub returns : goal.returns
returns c =
    sym (none_matched c.args.patterns.now c.args.path.now
    (λ k low. c.loop-len.invariant k (omega (arith, low, c.loop-len-test.false, c.loop-len.auto.len-end))))
