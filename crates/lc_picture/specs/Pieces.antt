-- The pieces of a page. Names are in pieces of their own, so all other pieces have only fixed text, words and numbers.
use Rattle.std.specs.Prelude.{ℕ, List, [], ◌∷◌, flat_map, codes, decimal}
use Rattle.lc_formats.specs.{CellWords.with_commas, Shares.{rounded_parts, share_word}}
use Rattle.lc_sheet.specs.declared.column.Number.{Number, TheVariants.{Files, Lines, Blank, Bytes}}
use Rattle.lc_walk.specs.declared.tally.sums.Sums.{Sums}
use Rattle.lc_picture.specs.{declared.scale.Scale.Scale, Escaping.html}

abbrev pub number_word : Number → List ℕ
number_word Files = codes "files"
number_word Lines = codes "lines"
number_word Blank = codes "blank lines"
number_word Bytes = codes "bytes"

-- a piece of a page: fixed text with its tags, the word for a number, a number in a tag, a number that the page shows, the share that a
-- part is of a whole, a path in a title, or a name. The last two are as terminals show them
pub data Piece : Type 0 where
  markup : List ℕ → Piece
  word : Number → Piece
  share : ℕ → Piece
  count : ℕ → Piece
  percent : ℕ → ℕ → Piece
  title : List ℕ → Piece
  name : List ℕ → Piece

abbrev pub piece_text : Piece → List ℕ
piece_text (markup t) = t
piece_text (word n) = number_word n
piece_text (share n) = decimal n
piece_text (count n) = with_commas (decimal n)
piece_text (percent part whole) = share_word (rounded_parts 1000 part whole)
piece_text (title t) = html t
piece_text (name t) = html t

abbrev pub text_of : List Piece → List ℕ
text_of ps = flat_map piece_text ps

-- four numbers, each after its word
abbrev pub numbers : ℕ → ℕ → ℕ → ℕ → List Piece
numbers lines files blank bytes =
    markup (codes "lines ") ∷ count lines ∷ markup (codes ", files ") ∷ count files ∷ markup (codes ", blank ") ∷ count blank
    ∷ markup (codes ", bytes ") ∷ count bytes ∷ []

-- sums over files, each after its word
abbrev pub sums_pieces : Sums → List Piece
sums_pieces s = numbers s.lines s.files s.blank s.bytes

-- the share that a number has in the sum over all files
abbrev pub share_pieces : Scale → ℕ → List Piece
share_pieces scale n =
    markup (codes ", ") ∷ percent n scale.whole ∷ markup (codes " of all ") ∷ word scale.by ∷ []
