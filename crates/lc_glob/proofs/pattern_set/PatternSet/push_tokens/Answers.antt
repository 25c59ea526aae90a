use Rattle.std.proofs.Common.{◌∷◌, ◌++◌, ◌∙◌, [], List, ap, arith}
use Rattle.lc_glob.specs.declared.pattern_set.PatternSpan.{PatternSpan}
use Rattle.lc_glob.proofs.PatternSpans.{tokens_kept}
use Rattle.lc_glob.proofs.pattern_set.PatternSet.push_tokens.Goals as goal

pub returns-clause-ok : goal.returns-clause-ok
returns-clause-ok c =
    tokens_kept c.self.inside.spans.items _ c.self.inside.bytes.items c.self.inside.tokens.items c.args.pattern.tokens.now _ c.args.self.now
    _ c.args.pattern.scope _ _ c.self.invariant c.self.view_is c.in_ok-extend_from_slice.ensures.items
    (c.push_reserved.ensures.items ∙ ap (λ (l : List PatternSpan). l ++ c.in_ok-span.span ∷ []) c.in_ok-reserve.ensures.items)
    c.in_ok-span.ensures (omega (arith, c.len.ensures)) (omega arith)
