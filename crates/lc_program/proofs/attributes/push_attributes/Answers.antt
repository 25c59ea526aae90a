use Rattle.std.proofs.Common.{◌∙◌, ℕ, List, Vec, ap, sym}
use Rattle.std.specs.{Borrow.Bor, Global.Global}
use Rattle.lc_level.specs.NamedAttributes.{attributes_of}
use Rattle.lc_program.proofs.AttributesNamed.{attribute_added, languages_passed}
use Rattle.lc_program.proofs.attributes.push_attributes.Goals.{then-ne+in_ok-push, else-ne}
use Rattle.lc_program.proofs.attributes.push_attributes.Goals as goal

abbrev items_of : Vec (Bor (List ℕ)) Global → List (Bor (List ℕ))
items_of words = words.items

pub loop-column-preserved : goal.loop-column-preserved
loop-column-preserved c =
    elim c.if-ne.branch [
      | then-ne+in_ok-push w ↦
          attribute_added c.args.columns.now c.loop-column.column-index _ c.loop-column-test.true (attributes_of c.args.words.now.items)
          c.loop-column.words.items c.loop-column.invariant c.if-ne.words.items w.attribute_of.result (sym c.ne.ensures ∙ w.if-ne.true)
          (ap items_of w.words-is ∙ w.in_ok-push.ensures.items) w.attribute_of.ensures
      | else-ne w ↦
          languages_passed c.args.columns.now c.loop-column.column-index _ c.loop-column-test.true (attributes_of c.args.words.now.items)
          c.loop-column.words.items c.loop-column.invariant c.if-ne.words.items (sym c.ne.ensures ∙ w.if-ne.false) (ap items_of w.words-is)
    ]
