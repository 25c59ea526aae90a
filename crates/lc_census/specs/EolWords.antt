-- The words of line ends.
use Rattle.std.specs.Prelude.{ℕ, List, codes}
use Rattle.lc_census.specs.declared.line_count.Eol.{Eol, TheVariants.{NoEnd, Lf, CrLf, Cr, Mixed, Nul}}

-- the word by which reports name how lines end
abbrev pub eol_word : Eol → List ℕ
eol_word NoEnd = codes "none"
eol_word Lf = codes "lf"
eol_word CrLf = codes "crlf"
eol_word Cr = codes "cr"
eol_word Mixed = codes "mixed"
eol_word Nul = codes "nul"
