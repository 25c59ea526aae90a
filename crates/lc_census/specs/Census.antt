-- The census of bytes, by how they are cut into lines.
use Rattle.std.specs.{Prelude.{◌≡◌, ℕ, ◌+◌, Bool, true, false, not, ◌&&◌, List, length, count_by}, List.{list_any, list_all}}
use Rattle.lc_census.specs.{Bytes.{is_space, is_nul, one_if}, Cutting.{End, lf, cr_lf, cr, Line, Cutting, is_empty, same_end, IsCutting}}
use Rattle.lc_census.specs.declared.line_count.{Count.Count, Eol.{Eol, TheVariants.{NoEnd, Lf, CrLf, Cr, Mixed, Nul}}}

-- whether a text has only spaces and tabs, or nothing
abbrev pub is_blank_text : List ℕ → Bool
is_blank_text text = list_all is_space text

-- the number of lines, and one more if a rest comes after the last end
abbrev pub line_count : Cutting → ℕ
line_count cutting = length cutting.lines + one_if (not (is_empty cutting.rest))

-- the number of blank lines, with a blank rest after the last end
abbrev pub blank_count : Cutting → ℕ
blank_count cutting =
    count_by (λ line. is_blank_text line.text) cutting.lines
    + one_if (not (is_empty cutting.rest) && is_blank_text cutting.rest)

-- whether some line ends in this way
abbrev pub has_end : End → List Line → Bool
has_end end lines = list_any (λ line. same_end end line.end) lines

-- the kind of the line ends, by whether there is a NUL, an end LF, an end CR LF and an end CR
abbrev pub class_of : Bool → Bool → Bool → Bool → Eol
class_of true _ _ _ = Nul
class_of false false false false = NoEnd
class_of false true false false = Lf
class_of false false true false = CrLf
class_of false false false true = Cr
class_of false _ _ _ = Mixed

abbrev pub eol_of : List ℕ → List Line → Eol
eol_of bytes lines =
    class_of (list_any is_nul bytes) (has_end lf lines) (has_end cr_lf lines) (has_end cr lines)

abbrev pub count_of : List ℕ → Cutting → Count
count_of bytes cutting = record {
  lines = line_count cutting;
  blank = blank_count cutting;
  bytes = length bytes;
  eol = eol_of bytes cutting.lines;
}

-- the count is the census of the bytes, by the cutting that they have
abbrev pub IsCensus : List ℕ → Count → Type 0
IsCensus bytes count = (cutting : Cutting) × IsCutting bytes cutting × (count ≡ count_of bytes cutting)
