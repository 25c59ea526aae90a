-- Boxes inside the boxes of the directories that hold them.
use Rattle.std.proofs.Common.{◌≡◌, ℕ, ◌+◌, ◌-◌, ◌&&◌, nat_lt, Bool, true, false, List, [], ◌∷◌, ◌++◌, drop, length, min}
use Rattle.std.proofs.Common.{suc, zero, refl, ap, ap₂, ◌∙◌, append_assoc, arith, length-append}
use Rattle.lc_picture.specs.{declared.scale.Scale.Scale, Boxes.BoxModel, Inside.{AreBoxesAt, ComeDepthFirst, InsideLaw, boxes_read}}
use Rattle.lc_picture.specs.{Nested.{boxes_in, closings, opening, strip_tag}, Pieces.Piece, Rests.shown_name}
use Rattle.lc_picture.specs.Strips.{first_strip, strip_number, strip_of}
use Rattle.lc_picture.proofs.Openings.{opening_with, strip_with}

-- closing tags end the innermost boxes
read_closed : (left above : List (List ℕ)) (ps : List Piece)
    → boxes_read (left ++ above) (closings (length left) ++ ps) ≡ boxes_read above ps
read_closed [] above ps = refl
read_closed (own ∷ left) above ps = read_closed left above ps

read_to_end : (around : List (List ℕ)) (n : ℕ) → boxes_read around (closings n) ≡ []
read_to_end around zero = refl
read_to_end around (suc n) = read_to_end (drop 1 around) n

read_opened : (around : List (List ℕ)) (scale : Scale) (b : BoxModel) (place strip : ℕ) (rest file : Bool) (ps : List Piece)
    → boxes_read around (opening_with scale b place strip rest file ++ ps)
    ≡ (shown_name scale.by b ∷ around) ∷ boxes_read (shown_name scale.by b ∷ around) ps
read_opened around scale b place strip true file ps = refl
read_opened around scale b place strip false true ps = refl
read_opened around scale b place strip false false ps = refl

-- a further strip opens and closes no box
read_strip : (around : List (List ℕ)) (strip : ℕ) (there : Bool) (ps : List Piece)
    → boxes_read around (strip_with there strip ++ ps) ≡ boxes_read around ps
read_strip around strip true ps = refl
read_strip around strip false ps = refl

all_inside : (scale : Scale) (before : List (List ℕ)) (bs : List BoxModel) (ds : List (List (List ℕ))) → ComeDepthFirst before ds
    → AreBoxesAt scale.by bs ds → boxes_read before (boxes_in scale (length before) bs) ≡ ds
all_inside scale before [] [] come at = read_to_end before (length before)
all_inside scale before [] (d ∷ ds) come at = absurd at
all_inside scale before (b ∷ bs) [] come at = absurd at
all_inside scale before (b ∷ bs) ([] ∷ ds) come at = absurd at
all_inside scale before (b ∷ bs) ((own ∷ above) ∷ ds) ((left, is), come) ((named, deep), at) =
    let rest : ℕ → List Piece = λ n. boxes_in scale n bs in
    let many : length before ≡ length left + length above = ap length is ∙ length-append left above in
    let closed : length before - b.depth ≡ length left = omega (arith, many, deep) in
    let more : ℕ = min (length before) b.depth + 1 in
    let next : more ≡ suc (length above) = omega (arith, many, deep) in
    let strip : ℕ = strip_number scale.by (strip_of b bs) in
    let further : List Piece = strip_tag scale.by (length before) b bs in
    let opened : List Piece = opening scale b bs in
    ap (boxes_read before) (append_assoc (closings (length before - b.depth)) (further ++ opened) (rest more))
    ∙ ap₂ (λ (around : List (List ℕ)) (n : ℕ). boxes_read around (closings n ++ ((further ++ opened) ++ rest more))) is closed
    ∙ read_closed left above ((further ++ opened) ++ rest more)
    ∙ ap (boxes_read above) (append_assoc further opened (rest more))
    ∙ read_strip above strip (b.begins_strip && nat_lt b.depth (length before)) (opened ++ rest more)
    ∙ read_opened above scale b (length bs) (strip_number scale.by (first_strip b.depth bs)) b.is_rest b.is_file (rest more)
    ∙ ap₂ (λ (o : List ℕ) (n : ℕ). (o ∷ above) ∷ boxes_read (o ∷ above) (rest n)) named next
    ∙ ap (λ (found : List (List (List ℕ))). (own ∷ above) ∷ found) (all_inside scale (own ∷ above) bs ds come at)

pub inside_law : InsideLaw
inside_law scale bs ds come at = all_inside scale [] bs ds come at
