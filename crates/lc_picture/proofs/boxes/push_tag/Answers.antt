use Rattle.std.proofs.Common.{ℕ, List, [], ◌∷◌, ◌++◌, ap, ◌∙◌, codes, decimal}
use Rattle.lc_rows.specs.ShownRows.{number_in}
use Rattle.lc_picture.specs.{Boxes.BoxModel, Nested.label_tag, Pieces.{Piece, markup, share}}
use Rattle.lc_picture.proofs.Texts.{one_piece, three_pieces, two_texts}
use Rattle.lc_picture.proofs.boxes.push_tag.Goals as goal

pub returns : goal.returns
returns c =
    let t0 = c.args.text.now.items in
    let t1 = c.extend_from_slice.new.self.items in
    let t2 = c.push_number.new.text.items in
    let t3 = c.extend_from_slice-2.new.self.items in
    let t4 = c.push_number-2.new.text.items in
    let t5 = c.push_label_tag.new.text.items in
    let by = c.args.by in
    let b = c.args.drawn.now in
    let begin : Piece = markup (codes "<div class=\"b e") in
    let style : Piece = markup (codes "\" style=\"--n:") in
    let number : Piece = share (number_in by b.sums) in
    let labelled : List Piece = label_tag c.args.place b in
    two_texts t0 t3 t5 (begin ∷ share b.colour ∷ style ∷ []) (number ∷ labelled)
    (three_pieces t0 t1 t2 t3 begin (share b.colour) style c.in_ok-extend_from_slice.ensures.items
    (c.in_ok-push_number.ensures ∙ ap (λ (d : BoxModel). t1 ++ decimal d.colour) c.drawn.view_is)
    c.in_ok-extend_from_slice-2.ensures.items)
    (two_texts t3 t4 t5 (number ∷ []) labelled
    (one_piece t3 t4 number (c.in_ok-push_number-2.ensures ∙ ap (λ (n : ℕ). t3 ++ decimal n)
    (c.number_in.ensures ∙ ap (λ (d : BoxModel). number_in by d.sums) c.drawn.view_is))) c.in_ok-push_label_tag.ensures)
