use Rattle.std.proofs.Common.{◌≡◌, ℕ, List, ap, ap₂, ◌∙◌, subst}
use Rattle.lc_rows.specs.RowKeys.{ShownRowModel}
use Rattle.lc_picture.specs.{Boxes.{BoxModel, drawn_boxes}, Chains.joined, Files.{FileBoxModel, large_files, with_files}, Page.tree_depth}
use Rattle.lc_picture.specs.{Places.AreLargestFirst, Rests.with_rests}
use Rattle.lc_picture.proofs.report_page.boxes_of.Goals as goal

pub returns : goal.returns
returns c =
    let by = c.args.by in
    let least : ℕ = c.args.least in
    let files = c.args.files.now in
    let kinds : List ShownRowModel = c.args.kinds.now in
    let tree : List ShownRowModel = c.in_ok-tree.tree.items in
    let chains : c.deref-4.result.now ≡ joined by least (drawn_boxes by least kinds tree) =
    c.deref-4.ensures.value ∙ c.in_ok-chains.ensures
    ∙ ap (joined by least) (c.deref-2.ensures.value ∙ c.in_ok-drawn.ensures
    ∙ ap (λ (ts : List ShownRowModel). drawn_boxes by least kinds ts) c.deref.ensures.value) in
    let large : c.deref-3.result.now ≡ large_files tree_depth by least files = c.deref-3.ensures.value ∙ c.in_ok-large.ensures in
    record {
      tree = tree;
      are_tree = c.in_ok-tree.ensures;
      sorted = c.in_ok-sorted.sorted.items;
      are_sorted =
          subst (λ (bs : List BoxModel). AreLargestFirst by bs c.in_ok-sorted.sorted.items)
          (c.deref-5.ensures.value ∙ c.in_ok-all.ensures
          ∙ ap₂ (λ (fs : List FileBoxModel) (bs : List BoxModel). with_files fs bs) large chains) c.in_ok-sorted.ensures;
      are = c.in_ok-boxes.ensures ∙ ap (with_rests by) c.deref-6.ensures.value;
    }
