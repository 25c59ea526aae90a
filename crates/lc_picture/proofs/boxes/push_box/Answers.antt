use Rattle.std.proofs.Common.{ℕ, List, ◌++◌, ◌-◌, ap, ◌∙◌}
use Rattle.lc_picture.specs.{Boxes.BoxModel, Nested.{closings, opening, strip_tag}, Pieces.{Piece, text_of}}
use Rattle.lc_picture.proofs.Texts.{two_texts}
use Rattle.lc_picture.proofs.boxes.push_box.Goals as goal

pub returns-clause-text : goal.returns-clause-text
returns-clause-text c =
    let t0 = c.args.text.now.items in
    let t1 = c.push_closings.new.text.items in
    let t2 = c.push_strip_tag.new.text.items in
    let t3 = c.push_opening.new.text.items in
    let scale = c.args.scale in
    let b = c.args.drawn.now in
    let after = c.args.after.now in
    let further : List Piece = strip_tag scale.by c.args.within b after in
    two_texts t0 t1 t3 (closings (c.args.within - b.depth)) (further ++ opening scale b after)
    (c.in_ok-push_closings.ensures ∙ ap (λ (n : ℕ). t0 ++ text_of (closings n))
    (c.saturating_sub.ensures ∙ ap (λ (d : BoxModel). c.args.within - d.depth) c.drawn.view_is))
    (two_texts t1 t2 t3 further (opening scale b after) c.in_ok-push_strip_tag.ensures c.in_ok-push_opening.ensures)
