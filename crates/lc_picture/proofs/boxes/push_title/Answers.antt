use Rattle.std.proofs.Common.{ℕ, [], ◌∷◌, ◌++◌, ap, ◌∙◌, codes}
use Rattle.lc_rows.specs.ShownRows.{number_in}
use Rattle.lc_text.specs.Visible.{visible_path}
use Rattle.lc_picture.specs.{Boxes.BoxModel, Nested.title_of, Pieces.{Piece, markup, share_pieces, sums_pieces, text_of, title}}
use Rattle.lc_picture.proofs.Texts.{one_piece, two_texts}
use Rattle.lc_picture.proofs.boxes.push_title.Goals as goal

pub returns : goal.returns
returns c =
    let t0 = c.args.text.now.items in
    let t1 = c.push_path.new.text.items in
    let t2 = c.extend_from_slice.new.self.items in
    let t3 = c.push_sums.new.text.items in
    let t4 = c.push_share.new.text.items in
    let scale = c.args.scale in
    let d = c.drawn.inside in
    let n = number_in scale.by d.sums in
    let path : Piece = title (visible_path d.path.now) in
    let colon : Piece = markup (codes ": ") in
    two_texts t0 t2 t4 (path ∷ colon ∷ []) (sums_pieces d.sums ++ share_pieces scale n)
    (two_texts t0 t1 t2 (path ∷ []) (colon ∷ []) (one_piece t0 t1 path c.in_ok-push_path.ensures)
    (one_piece t1 t2 colon c.in_ok-extend_from_slice.ensures.items))
    (two_texts t2 t3 t4 (sums_pieces d.sums) (share_pieces scale n) c.in_ok-push_sums.ensures
    (c.in_ok-push_share.ensures ∙ ap (λ (m : ℕ). t3 ++ text_of (share_pieces scale m)) c.number_in.ensures))
    ∙ ap (λ (b : BoxModel). t0 ++ text_of (title_of scale b)) c.drawn.view_is
