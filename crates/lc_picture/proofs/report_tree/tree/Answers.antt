use Rattle.std.proofs.Common.{List, ℕ, [], ap, ap₂, subst, ◌∙◌}
use Rattle.lc_formats.specs.TreeText.{TreeLineModel, tree_text}
use Rattle.lc_level.specs.Level.{FileLineModel}
use Rattle.lc_sheet.specs.declared.column.Number.{Number}
use Rattle.lc_picture.specs.{Boxes.least_of, Page.AreBoxesOf, Tree.{IsTreeOf, tree_parts}}
use Rattle.lc_picture.proofs.report_tree.tree.Goals as goal

pub returns : goal.returns
returns c =
    let by = c.unwrap_or-by.result in
    let boxes = c.in_ok-boxes.boxes.items in
    let whole = c.number_in-whole.ensures in
    subst (λ (b : Number). IsTreeOf c.args.title.now b c.args.levels c.args.report.now c.in_ok-text.text.items) c.unwrap_or-by.ensures
    (record {
      boxes = boxes;
      are_boxes =
          subst (λ (n : ℕ). AreBoxesOf by n c.args.report.now.files.items [] boxes) (c.least_of.ensures ∙ ap (least_of tree_parts) whole)
          (subst (λ (fs : List FileLineModel). AreBoxesOf by c.least_of.result fs [] boxes) c.deref.ensures.value c.in_ok-boxes.ensures);
      is =
          c.in_ok-text.ensures
          ∙ ap₂ (λ (n : ℕ) (ls : List TreeLineModel). tree_text by n ls) whole (c.deref-2.ensures.value ∙ c.in_ok-lines.ensures);
    })
