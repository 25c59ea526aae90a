use Rattle.std.proofs.Common.{ℕ, List, [], ◌∷◌, ◌++◌, ap, ◌∙◌, codes}
use Rattle.lc_text.specs.Visible.{visible_path}
use Rattle.lc_picture.specs.{Head.what_is_drawn, Pieces.{Piece, markup, title}, Style.{page_begin, style, style_begin}}
use Rattle.lc_picture.proofs.Texts.{one_piece, three_pieces, two_texts}
use Rattle.lc_picture.proofs.head.push_page_top.Goals as goal

pub returns : goal.returns
returns c =
    let t0 = c.args.text.now.items in
    let t1 = c.extend_from_slice.new.self.items in
    let t2 = c.push_path.new.text.items in
    let t3 = c.extend_from_slice-2.new.self.items in
    let t4 = c.push_what_is_drawn.new.text.items in
    let t5 = c.extend_from_slice-3.new.self.items in
    let t6 = c.extend_from_slice-4.new.self.items in
    let named : Piece = title (visible_path c.args.title.now) in
    let colon : Piece = markup (codes ": ") in
    let drawn : List Piece = what_is_drawn c.args.chosen.now c.args.by in
    two_texts t0 t3 t6 (markup page_begin ∷ named ∷ colon ∷ []) (drawn ++ markup style_begin ∷ markup style ∷ [])
    (three_pieces t0 t1 t2 t3 (markup page_begin) named colon
    (c.in_ok-extend_from_slice.ensures.items ∙ ap (λ (l : List ℕ). t0 ++ l) c.page_begin.ensures) c.in_ok-push_path.ensures
    c.in_ok-extend_from_slice-2.ensures.items)
    (two_texts t3 t4 t6 drawn (markup style_begin ∷ markup style ∷ []) c.in_ok-push_what_is_drawn.ensures
    (two_texts t4 t5 t6 (markup style_begin ∷ []) (markup style ∷ [])
    (one_piece t4 t5 (markup style_begin) (c.in_ok-extend_from_slice-3.ensures.items ∙ ap (λ (l : List ℕ). t4 ++ l) c.style_begin.ensures))
    (one_piece t5 t6 (markup style) (c.in_ok-extend_from_slice-4.ensures.items ∙ ap (λ (l : List ℕ). t5 ++ l) c.style.ensures))))
