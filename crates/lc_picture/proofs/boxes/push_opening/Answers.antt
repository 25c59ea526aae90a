use Rattle.std.proofs.Common.{ℕ, List, ◌++◌, ap, ◌∙◌, length}
use Rattle.lc_picture.specs.{Boxes.BoxModel, Nested.{label, tag, title_of}, Pieces.{Piece, text_of}, Strips.{first_strip, strip_number}}
use Rattle.lc_picture.proofs.Texts.{two_texts}
use Rattle.lc_picture.proofs.boxes.push_opening.Goals as goal

pub returns : goal.returns
returns c =
    let t0 = c.args.text.now.items in
    let t1 = c.push_tag.new.text.items in
    let t2 = c.push_title.new.text.items in
    let t3 = c.push_label.new.text.items in
    let scale = c.args.scale in
    let b = c.args.drawn.now in
    let after = c.args.after.now in
    let titled : List Piece = title_of scale b in
    let strip : ℕ = strip_number scale.by (first_strip b.depth after) in
    two_texts t0 t1 t3 (tag scale.by (length after) b) (titled ++ label scale.by strip b) c.in_ok-push_tag.ensures
    (two_texts t1 t2 t3 titled (label scale.by strip b) c.in_ok-push_title.ensures
    (c.in_ok-push_label.ensures ∙ ap (λ (n : ℕ). t2 ++ text_of (label scale.by n b))
    (c.in_ok-strip.ensures ∙ ap (λ (d : BoxModel). strip_number scale.by (first_strip d.depth after)) c.drawn.view_is)))
