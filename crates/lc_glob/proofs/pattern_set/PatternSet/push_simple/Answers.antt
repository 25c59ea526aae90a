use Rattle.std.proofs.Common.{◌∷◌, ◌++◌, ◌∙◌, [], List, ap, arith}
use Rattle.lc_glob.specs.declared.pattern_set.PatternSpan.{PatternSpan}
use Rattle.lc_glob.proofs.PatternSpans.{bytes_kept}
use Rattle.lc_glob.proofs.pattern_set.PatternSet.push_simple.Goals as goal

pub returns-clause-ok : goal.returns-clause-ok
returns-clause-ok c =
    bytes_kept c.self.inside.spans.items _ c.self.inside.bytes.items c.args.pattern.bytes.now _ c.self.inside.tokens.items c.args.self.now
    _ c.args.pattern.form _ _ c.self.invariant c.self.view_is c.in_ok-extend_from_slice.ensures.items
    (c.push_reserved.ensures.items ∙ ap (λ (l : List PatternSpan). l ++ c.in_ok-span.span ∷ []) c.in_ok-reserve.ensures.items)
    c.in_ok-span.ensures (omega (arith, c.len.ensures)) (omega arith)
