use Rattle.std.proofs.Common.{ℕ, [], ◌∷◌, ◌++◌, ap, ◌∙◌, codes, decimal}
use Rattle.lc_formats.specs.CellWords.{with_commas}
use Rattle.lc_rows.specs.{RowKeys.ShownRowModel, ShownRows.number_in}
use Rattle.lc_picture.specs.{Legend.visible_extension, Pieces.{Piece, count, markup, name, share}}
use Rattle.lc_picture.proofs.Texts.{five_pieces, one_piece, two_texts}
use Rattle.lc_picture.proofs.legend.push_entry.Goals as goal

pub returns : goal.returns
returns c =
    let t0 = c.args.text.now.items in
    let t1 = c.extend_from_slice.new.self.items in
    let t2 = c.push_number.new.text.items in
    let t3 = c.extend_from_slice-2.new.self.items in
    let t4 = c.push_extension.new.text.items in
    let t5 = c.extend_from_slice-3.new.self.items in
    let t6 = c.push_count.new.text.items in
    let t7 = c.extend_from_slice-4.new.self.items in
    let by = c.args.by in
    let r = c.args.row.now in
    let begin : Piece = markup (codes "<span class=\"e") in
    let end : Piece = markup (codes "\">") in
    let own : Piece = name (visible_extension r.key.tally.extension) in
    let between : Piece = markup (codes " ") in
    let number : Piece = count (number_in by r.sums) in
    let last : Piece = markup (codes "</span>\n") in
    two_texts t0 t5 t7 (begin ∷ share c.args.colour ∷ end ∷ own ∷ between ∷ []) (number ∷ last ∷ [])
    (five_pieces t0 t1 t2 t3 t4 t5 begin (share c.args.colour) end own between c.in_ok-extend_from_slice.ensures.items
    c.in_ok-push_number.ensures c.in_ok-extend_from_slice-2.ensures.items
    c.in_ok-push_extension.ensures c.in_ok-extend_from_slice-3.ensures.items)
    (two_texts t5 t6 t7 (number ∷ []) (last ∷ [])
    (one_piece t5 t6 number (c.in_ok-push_count.ensures ∙ ap (λ (n : ℕ). t5 ++ with_commas (decimal n))
    (c.number_in.ensures ∙ ap (λ (s : ShownRowModel). number_in by s.sums) c.row.view_is)))
    (one_piece t6 t7 last c.in_ok-extend_from_slice-4.ensures.items))
