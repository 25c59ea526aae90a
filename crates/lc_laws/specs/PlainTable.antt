-- The text that a count without options, or with `--files`, prints to a file or a pipe, written from its report alone.
use Rattle.std.specs.{Prelude.{ℕ, Bool, if◌then◌else◌, List, [], ◌∷◌, ◌++◌, codes, decimal, Option, option_map, unwrap_or}, List.flat_map}
use Rattle.std.specs.List.{join_with_byte}
use Rattle.lc_census.specs.EolWords.{eol_word}
use Rattle.lc_level.specs.{FaultLines.FaultLineModel, FaultWords.fault_word, Level.FileLineModel}
use Rattle.lc_rules.specs.TextWords.{text_word}
use Rattle.lc_text.specs.Escape.{escape_bytes, escape_path}
use Rattle.lc_walk.specs.{TallyRows.TallyRowModel, declared.{report.Report.Report, tally.sums.Sums.Sums}}

-- a line has a tab between each two fields, and a line feed at its end; what is missing is a dash
abbrev pub line : List (List ℕ) → List ℕ
line fields = join_with_byte 9 fields ++ 10 ∷ []

abbrev pub or_dash : Option (List ℕ) → List ℕ
or_dash field = unwrap_or field (codes "-")

abbrev pub numbers : Sums → List (List ℕ)
numbers s = decimal s.files ∷ decimal s.lines ∷ decimal s.blank ∷ decimal s.bytes ∷ []

abbrev pub row_line : TallyRowModel → List ℕ
row_line r =
    line (or_dash (option_map (λ extension. codes "." ++ escape_bytes extension) r.key.extension)
    ∷ or_dash (text_word r.key.text) ∷ eol_word r.key.eol ∷ numbers r.sums)

abbrev pub file_line : FileLineModel → List ℕ
file_line f =
    line (codes "file" ∷ or_dash (text_word f.text) ∷ eol_word f.count.eol
    ∷ decimal f.count.lines ∷ decimal f.count.blank ∷ decimal f.count.bytes ∷ escape_path f.path ∷ [])

-- a header; the rows; the sums over all files; the number of directories; the files if they are requested; and the errors
abbrev pub plain_table : Bool → Report → List ℕ
plain_table files r =
    codes "ext\ttext\teol\tfiles\tlines\tblank\tbytes\n" ++ flat_map row_line r.rows.items
    ++ line (codes "total" ∷ codes "*" ∷ codes "*" ∷ numbers r.totals) ++ line (codes "directories" ∷ decimal r.directories ∷ [])
    ++ (if files then flat_map file_line r.files.items else [])
    ++ flat_map (λ (f : FaultLineModel). line (codes "fault" ∷ fault_word f.word ∷ escape_path f.path ∷ [])) r.faults.items
