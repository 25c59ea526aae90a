use Rattle.std.proofs.Common.{ℕ, List, [], ◌∷◌, ◌++◌, ap, ◌∙◌}
use Rattle.lc_picture.specs.{Legend.legend, Nested.boxes_in, Page.{explanation, legend_begin, tree_begin, tree_end, tree_part}}
use Rattle.lc_picture.specs.Pieces.{Piece, markup, text_of, word}
use Rattle.lc_picture.proofs.Texts.{one_piece, three_pieces, two_texts}
use Rattle.lc_picture.proofs.report_page.tree_of.Goals as goal

pub returns : goal.returns
returns c =
    let t0 = c.new-text.result.items in
    let t1 = c.extend_from_slice.new.self.items in
    let t2 = c.push_legend.new.text.items in
    let t3 = c.extend_from_slice-2.new.self.items in
    let t4 = c.push_boxes.new.text.items in
    let t5 = c.extend_from_slice-3.new.self.items in
    let t6 = c.extend_from_slice-4.new.self.items in
    let t7 = c.extend_from_slice-5.new.self.items in
    let scale = c.args.scale in
    let entries : List Piece = legend scale.by c.args.chart.now in
    let drawn : List Piece = boxes_in scale 0 c.args.boxes.now in
    let after : List Piece = markup tree_end ∷ word scale.by ∷ markup explanation ∷ [] in
    two_texts t0 t3 t7 (markup legend_begin ∷ (entries ++ markup tree_begin ∷ [])) (drawn ++ after)
    (two_texts t0 t1 t3 (markup legend_begin ∷ []) (entries ++ markup tree_begin ∷ [])
    (one_piece t0 t1 (markup legend_begin) (c.in_ok-extend_from_slice.ensures.items ∙ ap (λ (l : List ℕ). t0 ++ l) c.legend_begin.ensures))
    (two_texts t1 t2 t3 entries (markup tree_begin ∷ []) c.in_ok-push_legend.ensures
    (one_piece t2 t3 (markup tree_begin)
    (c.in_ok-extend_from_slice-2.ensures.items ∙ ap (λ (l : List ℕ). t2 ++ l) c.tree_begin.ensures))))
    (two_texts t3 t4 t7 drawn after c.in_ok-push_boxes.ensures
    (three_pieces t4 t5 t6 t7 (markup tree_end) (word scale.by) (markup explanation)
    (c.in_ok-extend_from_slice-3.ensures.items ∙ ap (λ (l : List ℕ). t4 ++ l) c.tree_end.ensures)
    (c.in_ok-extend_from_slice-4.ensures.items ∙ ap (λ (l : List ℕ). t5 ++ l) c.number_word.ensures)
    (c.in_ok-extend_from_slice-5.ensures.items ∙ ap (λ (l : List ℕ). t6 ++ l) c.explanation.ensures)))
    ∙ ap (λ (t : List ℕ). t ++ text_of (tree_part scale c.args.chart.now c.args.boxes.now)) c.new-text.ensures.items
