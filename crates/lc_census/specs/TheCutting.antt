-- The cutting of bytes into lines, as a value: from the last byte to the first.
use Rattle.std.specs.Prelude.{ℕ, Bool, true, false, List, [], ◌∷◌}
use Rattle.lc_census.specs.{Bytes.{is_lf, is_cr}, Cutting.{End, lf, cr_lf, cr, Line, Cutting, starts_with_lf}}

abbrev pub line : List ℕ → End → Line
line t e = record { text = t; end = e }

abbrev pub cutting : List Line → List ℕ → Cutting
cutting ls r = record { lines = ls; rest = r }

-- the lines after a CR in front of them: the CR is the end of an empty line, or part of an end CR LF with the LF that comes first
abbrev pub with_cr : Bool → List Line → List Line
with_cr true [] = []
with_cr true (l ∷ ls) = line [] cr_lf ∷ ls
with_cr false ls = line [] cr ∷ ls

-- the cutting with one more byte of a text in front of it
abbrev pub with_text : ℕ → List Line → List ℕ → Cutting
with_text x [] r = cutting [] (x ∷ r)
with_text x (l ∷ ls) r = cutting (line (x ∷ l.text) l.end ∷ ls) r

abbrev pub by_byte : Bool → Bool → ℕ → Cutting → Cutting
by_byte true c x d = cutting (line [] lf ∷ d.lines) d.rest
by_byte false true x d = cutting (with_cr (starts_with_lf d.lines) d.lines) d.rest
by_byte false false x d = with_text x d.lines d.rest

abbrev pub before : ℕ → Cutting → Cutting
before x d = by_byte (is_lf x) (is_cr x) x d

-- the one cutting that the bytes have
abbrev pub cut : List ℕ → Cutting
cut [] = cutting [] []
cut (x ∷ xs) = before x (cut xs)
