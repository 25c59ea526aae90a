-- The first path of an input, by its pieces between the bytes that end paths.
use Rattle.std.proofs.{Common.{◌≡◌, ℕ, ◌==◌, List, [], ◌∷◌, length, refl, ap, arith, ◌∙◌}, lemmas.List.Splits.length-slice_split}
use Rattle.lc_glob.specs.Pieces.{pieces_of}
use Rattle.lc_text.specs.{Lines.{without_empty_last, end_byte, input_paths_of, input_lines_of}, declared.lines.PathEnd.PathEnd}
use Rattle.lc_text.specs.declared.lines.PathEnd.TheVariants.{LineFeed}

some_piece : (end : ℕ) (bytes : List ℕ) → pieces_of end bytes ≡ [] → ⊥
some_piece end bytes e =
    let some = length-slice_split (λ b. b == end) bytes in
    let none : length (pieces_of end bytes) ≡ 0 = ap length e in omega (arith, some, none)

without_empty_last-cons : (path : List ℕ) (pieces : List (List ℕ)) → (pieces ≡ [] → ⊥)
    → without_empty_last (path ∷ pieces) ≡ path ∷ without_empty_last pieces
without_empty_last-cons path [] some = absurd (some refl)
without_empty_last-cons path (p ∷ ps) some = refl

-- the first path stands before the first byte that ends one
pub input_paths_of-first : (end : PathEnd) (bytes path rest : List ℕ) → pieces_of (end_byte end) bytes
    ≡ path ∷ pieces_of (end_byte end) rest
    → input_paths_of end bytes ≡ path ∷ input_paths_of end rest
input_paths_of-first end bytes path rest is =
    ap without_empty_last is ∙ without_empty_last-cons path (pieces_of (end_byte end) rest) (some_piece (end_byte end) rest)

-- the first line stands before the first line feed
pub input_lines_of-first : (bytes line rest : List ℕ) → pieces_of 10 bytes ≡ line ∷ pieces_of 10 rest
    → input_lines_of bytes ≡ line ∷ input_lines_of rest
input_lines_of-first bytes line rest is = input_paths_of-first LineFeed bytes line rest is
