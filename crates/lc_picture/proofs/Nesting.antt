-- Boxes that are opened and closed.
use Rattle.std.proofs.Common.{◌≡◌, ℕ, ◌+◌, ◌-◌, ◌≤◌, ◌==◌, ◌&&◌, nat_lt, Bool, true, false, List, [], ◌∷◌, ◌++◌, length, min, Some, None}
use Rattle.std.proofs.{Common.{if◌then◌else◌, suc, zero, refl, sym, ap, ◌∙◌, append_assoc, arith}, lemmas.{Bool.ne_eqb, List.append-nil}}
use Rattle.lc_picture.specs.{declared.scale.Scale.Scale, Boxes.BoxModel, Laws.{NestingLaw, open_after}, Pieces.Piece}
use Rattle.lc_picture.specs.{Nested.{boxes_in, closings, opening, strip_tag}, Strips.{first_strip, strip_number, strip_of}}
use Rattle.lc_picture.proofs.Openings.{opening_with, strip_with}

one_closed : (n : ℕ) (ps : List Piece) → 1 ≤ n → (if n == 0 then None else open_after (n - 1) ps) ≡ open_after (n - 1) ps
one_closed n ps some = let open_box : (n == 0) ≡ false = ne_eqb n 0 (λ none. absurd (omega arith)) in rw open_box refl

closed_after : (n k : ℕ) (ps : List Piece) → k ≤ n → open_after n (closings k ++ ps) ≡ open_after (n - k) ps
closed_after n zero ps le = let same : n ≡ n - 0 = omega arith in ap (λ (m : ℕ). open_after m ps) same
closed_after n (suc k) ps le =
    let next : n - 1 - k ≡ n - suc k = omega arith in
    one_closed n (closings k ++ ps) (omega arith) ∙ closed_after (n - 1) k ps (omega arith) ∙ ap (λ (m : ℕ). open_after m ps) next

opened_with : (n : ℕ) (scale : Scale) (b : BoxModel) (place strip : ℕ) (rest file : Bool) (ps : List Piece)
    → open_after n (opening_with scale b place strip rest file ++ ps) ≡ open_after (n + 1) ps
opened_with n scale b place strip true file ps = refl
opened_with n scale b place strip false true ps = refl
opened_with n scale b place strip false false ps = refl

-- a further strip opens and closes no box
strip_after : (n strip : ℕ) (there : Bool) (ps : List Piece) → open_after n (strip_with there strip ++ ps) ≡ open_after n ps
strip_after n strip true ps = refl
strip_after n strip false ps = refl

all_closed : (scale : Scale) (within : ℕ) (bs : List BoxModel) → open_after within (boxes_in scale within bs) ≡ Some 0
all_closed scale within [] =
    let none : within - within ≡ 0 = omega arith in
    ap (open_after within) (sym (append-nil (closings within))) ∙ closed_after within within [] (omega arith) ∙ ap (λ (n : ℕ). Some n) none
all_closed scale within (b ∷ bs) =
    let strip : ℕ = strip_number scale.by (strip_of b bs) in
    let further : List Piece = strip_tag scale.by within b bs in
    let opened : List Piece = opening scale b bs in
    let rest : List Piece = boxes_in scale (min within b.depth + 1) bs in
    let open_boxes : within - (within - b.depth) ≡ min within b.depth = omega arith in
    ap (open_after within) (append_assoc (closings (within - b.depth)) (further ++ opened) rest)
    ∙ closed_after within (within - b.depth) ((further ++ opened) ++ rest) (omega arith)
    ∙ ap (open_after (within - (within - b.depth))) (append_assoc further opened rest)
    ∙ strip_after (within - (within - b.depth)) strip (b.begins_strip && nat_lt b.depth within) (opened ++ rest)
    ∙ opened_with (within - (within - b.depth)) scale b (length bs) (strip_number scale.by (first_strip b.depth bs)) b.is_rest b.is_file rest
    ∙ ap (λ (n : ℕ). open_after (n + 1) rest) open_boxes
    ∙ all_closed scale (min within b.depth + 1) bs

pub nesting_law : NestingLaw
nesting_law scale bs = all_closed scale 0 bs
