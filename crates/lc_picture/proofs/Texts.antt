-- Texts of pieces that are written one after the other.
use Rattle.std.proofs.Common.{◌≡◌, ℕ, ◌-◌, ◌<◌, List, [], ◌∷◌, ◌++◌, suc, refl, sym, ap, ◌∙◌, append_assoc, arith}
use Rattle.std.proofs.lemmas.{Grind.flat_map-append, List.append-nil}
use Rattle.lc_picture.specs.{Nested.closings, Pieces.{Piece, piece_text, text_of}}

-- two texts of pieces
pub two_texts : (t0 t1 t2 : List ℕ) (a b : List Piece) → t1 ≡ t0 ++ text_of a → t2 ≡ t1 ++ text_of b → t2 ≡ t0 ++ text_of (a ++ b)
two_texts t0 t1 t2 a b e1 e2 =
    e2 ∙ ap (λ (t : List ℕ). t ++ text_of b) e1 ∙ append_assoc t0 (text_of a) (text_of b)
    ∙ ap (λ (t : List ℕ). t0 ++ t) (sym (flat_map-append piece_text a b))

pub one_piece : (t0 t1 : List ℕ) (p : Piece) → t1 ≡ t0 ++ piece_text p → t1 ≡ t0 ++ text_of (p ∷ [])
one_piece t0 t1 p e = e ∙ ap (λ (t : List ℕ). t0 ++ t) (sym (append-nil (piece_text p)))

pub three_pieces : (t0 t1 t2 t3 : List ℕ) (p q r : Piece) → t1 ≡ t0 ++ piece_text p → t2 ≡ t1 ++ piece_text q
    → t3 ≡ t2 ++ piece_text r → t3 ≡ t0 ++ text_of (p ∷ q ∷ r ∷ [])
three_pieces t0 t1 t2 t3 p q r e1 e2 e3 = rw (e3, e2, e1) (simp (append_assoc, append-nil))

pub five_pieces : (t0 t1 t2 t3 t4 t5 : List ℕ) (p q r s u : Piece) → t1 ≡ t0 ++ piece_text p → t2 ≡ t1 ++ piece_text q
    → t3 ≡ t2 ++ piece_text r → t4 ≡ t3 ++ piece_text s → t5 ≡ t4 ++ piece_text u → t5 ≡ t0 ++ text_of (p ∷ q ∷ r ∷ s ∷ u ∷ [])
five_pieces t0 t1 t2 t3 t4 t5 p q r s u e1 e2 e3 e4 e5 =
    two_texts t0 t3 t5 (p ∷ q ∷ r ∷ []) (s ∷ u ∷ []) (three_pieces t0 t1 t2 t3 p q r e1 e2 e3)
    (two_texts t3 t4 t5 (s ∷ []) (u ∷ []) (one_piece t3 t4 s e4) (one_piece t4 t5 u e5))

-- behind the text of some pieces come those after them
pub more : (t0 t1 all : List ℕ) (a b : List Piece) → t1 ≡ t0 ++ text_of a → t0 ++ text_of (a ++ b) ≡ all → t1 ++ text_of b ≡ all
more t0 t1 all a b e same = two_texts t0 t1 (t1 ++ text_of b) a b e refl ∙ same

-- one box more is closed
pub closed : (t0 t1 all : List ℕ) (rest : ℕ) → 0 < rest → t1 ≡ t0 ++ text_of (closings 1) → t0 ++ text_of (closings rest) ≡ all
    → t1 ++ text_of (closings (rest - 1)) ≡ all
closed t0 t1 all rest some e same =
    let one_more : rest ≡ suc (rest - 1) = omega arith in
    more t0 t1 all (closings 1) (closings (rest - 1)) e (ap (λ (n : ℕ). t0 ++ text_of (closings n)) (sym one_more) ∙ same)
