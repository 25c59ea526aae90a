use Rattle.std.proofs.Common.{ℕ, List, [], ◌∷◌, ◌++◌, ap, ◌∙◌}
use Rattle.lc_picture.specs.{Chart.chart, Page.{chart_begin, page_end}, Pieces.{Piece, markup}}
use Rattle.lc_picture.proofs.Texts.{one_piece, two_texts}
use Rattle.lc_picture.proofs.report_page.push_chart_part.Goals as goal

pub returns : goal.returns
returns g c =
    let t0 = c.args.text.now.items in
    let t1 = c.extend_from_slice.new.self.items in
    let t2 = c.push_chart.new.text.items in
    let t3 = c.extend_from_slice-2.new.self.items in
    let rows : List Piece = chart c.args.sheet.now in
    two_texts t0 t1 t3 (markup chart_begin ∷ []) (rows ++ markup page_end ∷ [])
    (one_piece t0 t1 (markup chart_begin) (c.in_ok-extend_from_slice.ensures.items ∙ ap (λ (l : List ℕ). t0 ++ l) c.chart_begin.ensures))
    (two_texts t1 t2 t3 rows (markup page_end ∷ []) c.in_ok-push_chart.ensures
    (one_piece t2 t3 (markup page_end)
    (c.in_ok-extend_from_slice-2.ensures.items ∙ ap (λ (l : List ℕ). t2 ++ l) c.page_end.ensures)))
