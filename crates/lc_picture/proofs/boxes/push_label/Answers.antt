use Rattle.std.proofs.Common.{ℕ, [], ◌∷◌, ◌++◌, ap, ◌∙◌, codes, decimal}
use Rattle.lc_formats.specs.CellWords.{with_commas}
use Rattle.lc_rows.specs.ShownRows.{number_in}
use Rattle.lc_picture.specs.{Boxes.BoxModel, Pieces.{Piece, count, markup, name, share}, Rests.shown_name}
use Rattle.lc_picture.proofs.Texts.{five_pieces, one_piece, two_texts}
use Rattle.lc_picture.proofs.boxes.push_label.Goals as goal

pub returns : goal.returns
returns c =
    let t0 = c.args.text.now.items in
    let t1 = c.extend_from_slice.new.self.items in
    let t2 = c.push_box_name.new.text.items in
    let t3 = c.extend_from_slice-2.new.self.items in
    let t4 = c.push_count.new.text.items in
    let t5 = c.extend_from_slice-3.new.self.items in
    let t6 = c.push_number.new.text.items in
    let t7 = c.extend_from_slice-4.new.self.items in
    let by = c.args.by in
    let b = c.args.drawn.now in
    let begin : Piece = markup (codes "\"><b>") in
    let own : Piece = name (shown_name by b) in
    let between : Piece = markup (codes "</b> <span>") in
    let number : Piece = count (number_in by b.sums) in
    let inside : Piece = markup (codes "</span></a><div style=\"--n:") in
    let strip : Piece = share c.args.strip in
    let end : Piece = markup (codes "\">") in
    two_texts t0 t5 t7 (begin ∷ own ∷ between ∷ number ∷ inside ∷ []) (strip ∷ end ∷ [])
    (five_pieces t0 t1 t2 t3 t4 t5 begin own between number inside c.in_ok-extend_from_slice.ensures.items c.in_ok-push_box_name.ensures
    c.in_ok-extend_from_slice-2.ensures.items
    (c.in_ok-push_count.ensures ∙ ap (λ (n : ℕ). t3 ++ with_commas (decimal n))
    (c.number_in.ensures ∙ ap (λ (d : BoxModel). number_in by d.sums) c.drawn.view_is)) c.in_ok-extend_from_slice-3.ensures.items)
    (two_texts t5 t6 t7 (strip ∷ []) (end ∷ []) (one_piece t5 t6 strip c.in_ok-push_number.ensures)
    (one_piece t6 t7 end c.in_ok-extend_from_slice-4.ensures.items))
