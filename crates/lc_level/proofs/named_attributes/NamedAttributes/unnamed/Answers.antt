use Rattle.std.proofs.Common.{◌∙◌, inl, inr, refl}
use Rattle.lc_level.proofs.SomeAttributes.{one_further}
use Rattle.lc_level.proofs.named_attributes.NamedAttributes.unnamed.Goals as goal

pub loop-word-preserved-then-load : goal.loop-word-preserved-then-load
loop-word-preserved-then-load c =
    one_further c.deref-word-items.result.now c.loop-word.word-index c.word-item.result c.loop-word.unnamed.items
    c.loop-word.unnamed.items c.loop-word-test.true c.word-item.is c.loop-word.invariant (inl refl)

pub loop-word-preserved : goal.loop-word-preserved
loop-word-preserved c =
    one_further c.deref-word-items.result.now c.loop-word.word-index c.word-item.result c.loop-word.unnamed.items
    c.push.new.self.items c.loop-word-test.true c.word-item.is c.loop-word.invariant
    (inr (
      c.in_ok-to_vec.field-0,
      c.in_ok-to_vec.ensures.items_if_clones_equal (λ _ _ e. e) ∙ c.deref.ensures.value,
      c.in_ok-push.ensures.items,
    ))
