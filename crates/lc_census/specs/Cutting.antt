-- Bytes as lines: each a text with its end, and a rest after the last end.
use Rattle.std.specs.{Prelude.{◌≡◌, ℕ, Bool, true, false, ◌&&◌, List, [], ◌∷◌, ◌++◌}, List.list_any}
use Rattle.lc_census.specs.Bytes.{is_end}

-- how a line ends
pub data End : Type 0 where
  lf : End
  cr_lf : End
  cr : End

pub record Line : Type 0 where
  pub text : List ℕ
  pub end : End

pub record Cutting : Type 0 where
  pub lines : List Line
  pub rest : List ℕ

abbrev pub is_empty : List ℕ → Bool
is_empty [] = true
is_empty (x ∷ xs) = false

-- a text holds no byte of a line end
abbrev pub HasNoEnd : List ℕ → Type 0
HasNoEnd text = list_any is_end text ≡ false

abbrev pub bytes_of : End → List ℕ
bytes_of lf = 10 ∷ []
bytes_of cr_lf = 13 ∷ 10 ∷ []
bytes_of cr = 13 ∷ []

-- the lines with their ends, and then the rest
abbrev pub joined : List Line → List ℕ → List ℕ
joined [] rest = rest
joined (line ∷ lines) rest = line.text ++ (bytes_of line.end ++ joined lines rest)

abbrev pub same_end : End → End → Bool
same_end lf lf = true
same_end cr_lf cr_lf = true
same_end cr cr = true
same_end _ _ = false

-- the first line is an LF with no text
abbrev pub starts_with_lf : List Line → Bool
starts_with_lf [] = false
starts_with_lf (line ∷ lines) = is_empty line.text && same_end lf line.end

-- no text holds a byte of a line end, and no LF stands right after an end CR, since the two are one end
abbrev pub AreLines : List Line → Type 0
AreLines [] = Unit {0}
AreLines (line ∷ lines) =
    HasNoEnd line.text × ((same_end cr line.end && starts_with_lf lines) ≡ false) × AreLines lines

-- this is how the bytes are cut into lines
pub record IsCutting (bytes : List ℕ) (cutting : Cutting) : Type 0 where
  pub lines : AreLines cutting.lines
  pub rest : HasNoEnd cutting.rest
  pub whole : joined cutting.lines cutting.rest ≡ bytes

-- there is exactly one cutting of the bytes
abbrev pub HasOneCutting : List ℕ → Type 0
HasOneCutting bytes =
    (cutting : Cutting) × IsCutting bytes cutting × ((other : Cutting) → IsCutting bytes other → other ≡ cutting)
