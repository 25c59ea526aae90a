-- The paths of a sheet, for other programs: each path with the byte that ends it.
use Rattle.std.specs.Prelude.{ℕ, ◌==◌, Bool, true, not, List, [], ◌∷◌, ◌++◌, filter, flat_map, codes, Option, Some, None}
use Rattle.std.specs.List.{list_all}
use Rattle.lc_sheet.specs.{Sheets.{SectionModel, SheetModel}, Values.{ValueModel, path}}
use Rattle.lc_text.specs.{Lines.end_byte, Visible.visible_bytes}
use Rattle.lc_text.specs.declared.lines.PathEnd.{PathEnd, TheVariants.{LineFeed, Nul}}

-- ---- the paths of a sheet

-- the lines that have the paths: those of the skipped entries if the sheet lists them, or else those of the files
abbrev pub path_lines : Option SectionModel → Option SectionModel → List (List ValueModel)
path_lines (Some skipped) files = skipped.lines
path_lines None (Some files) = files.lines
path_lines None None = []

-- the path that is the first value of a line, if it is a path
abbrev pub path_in : List ValueModel → List (List ℕ)
path_in (path p ∷ values) = p ∷ []
path_in other = []

abbrev pub listed_paths : SheetModel → List (List ℕ)
listed_paths s = flat_map path_in (path_lines s.skipped s.files)

-- ---- what is printed of them

abbrev pub has_no_feed : List ℕ → Bool
has_no_feed p = list_all (λ b. not (b == 10)) p

-- whether a path can be told apart from the next one where each is ended so
abbrev pub is_printed : PathEnd → List ℕ → Bool
is_printed Nul p = true
is_printed LineFeed p = has_no_feed p

-- the paths with the byte that ends each
abbrev pub ended : PathEnd → List (List ℕ) → List ℕ
ended end paths = flat_map (λ p. p ++ end_byte end ∷ []) (filter (is_printed end) paths)

-- an error line for each path that is not printed
abbrev pub refusal : List ℕ → List ℕ
refusal p = codes "lc: " ++ visible_bytes p ++ codes " has a line feed: use -0\n"

abbrev pub refusals : PathEnd → List (List ℕ) → List ℕ
refusals end paths = flat_map refusal (filter (λ p. not (is_printed end p)) paths)

abbrev pub paths_of : PathEnd → SheetModel → List ℕ
paths_of end s = ended end (listed_paths s)

abbrev pub refused_lines : PathEnd → SheetModel → List ℕ
refused_lines end s = refusals end (listed_paths s)
