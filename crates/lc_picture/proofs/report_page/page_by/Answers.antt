use Rattle.std.proofs.Common.{ℕ, List, [], ◌++◌, ap, ◌∙◌, subst, sym}
use Rattle.lc_picture.specs.{Boxes.{BoxModel, least_of}, Faults.faults_part, Head.head_part, Page.{ArePageBoxes, body_pieces, chart_part}}
use Rattle.lc_picture.specs.{Page.{picture_parts, tree_part}, Pieces.{Piece, text_of}, declared.scale.Scale.Scale}
use Rattle.lc_sheet.specs.declared.column.Number.{Number}
use Rattle.lc_picture.proofs.{Pages.page_is, Texts.two_texts}
use Rattle.lc_picture.proofs.report_page.page_by.Goals as goal

pub returns : goal.returns
returns c =
    let named = c.args.title.now in
    let chosen = c.args.chosen.now in
    let scale = c.scale_of-scale.result in
    let faults = c.deref-9.result.now in
    let sheet = c.sheet-sheet.result in
    let chart = c.first_rows-chart.result.now in
    let boxes = c.in_ok-boxes.boxes.items in
    let t0 = c.in_ok-text.text.items in
    let t1 = c.push_faults.new.text.items in
    let t2 = c.extend_from_slice.new.self.items in
    let t3 = c.push_chart_part.new.text.items in
    let drawn : List Piece = tree_part scale chart boxes in
    let are_boxes =
    subst (λ (n : Number). ArePageBoxes named chart n c.deref-7.result.now boxes) (sym (ap (λ (q : Scale). q.by) c.scale_of-scale.ensures))
    c.in_ok-boxes.ensures in
    page_is named chosen c.args.by c.args.report.now t3 c.deref.result.now c.deref-2.result.now
    c.deref-5.result.now c.in_ok-extensions.extensions.items c.deref-3.result.now chart
    c.in_ok-kinds.kinds.items c.deref-6.result.now c.deref-4.result.now c.least_of-least.result c.in_ok-drawn.drawn.items
    c.deref-7.result.now boxes c.chart_options.result sheet scale faults c.deref.ensures.value c.deref-2.ensures.value
    c.deref-5.ensures.value c.deref-3.ensures.value c.deref-7.ensures.value c.in_ok-extensions.ensures c.first_rows-chart.ensures
    c.deref-4.ensures.value (c.deref-6.ensures.value ∙ c.shrink_to_fit.ensures.items) c.in_ok-kinds.ensures
    (c.least_of-least.ensures ∙ ap (least_of picture_parts) c.number_in.ensures) c.in_ok-drawn.ensures are_boxes
    c.chart_options.ensures (c.sheet-sheet.ensures ∙ c.in_ok-shown.ensures) c.scale_of-scale.ensures c.deref-9.ensures.value
    (two_texts [] t0 t3 (head_part named chosen scale.by sheet.totals) (body_pieces scale faults chart sheet boxes) c.in_ok-text.ensures
    (two_texts t0 t1 t3 (faults_part faults) (drawn ++ chart_part sheet) c.in_ok-push_faults.ensures
    (two_texts t1 t2 t3 drawn (chart_part sheet)
    (c.in_ok-extend_from_slice.ensures.items ∙ ap (λ (t : List ℕ). t1 ++ t) (c.deref-10.ensures.value ∙ c.in_ok-tree.ensures ∙ ap (λ (bs : List BoxModel). text_of (tree_part scale chart bs)) c.deref-8.ensures.value))
    c.in_ok-push_chart_part.ensures)))
