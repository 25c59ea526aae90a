-- How wide the lines of rows, of their sums and of the last numbers are.
use Rattle.std.proofs.{lemmas.{Grind.common_steps, List.Elements.{All-append, All-cons, All-head, All-nil, All-tail, All-take}}, Common.◌≡◌}
use Rattle.std.proofs.{Common.{ℕ, Bool, true, false, List, [], ◌∷◌, ◌++◌, length, map, codes, Option, Some, None, append-nil, refl, sym}}
use Rattle.std.proofs.{Common.{ap, ◌∙◌, subst, arith}}
use Rattle.std.specs.List.{All}
use Rattle.lc_text.specs.{Names.named, Visible.visible_bytes}
use Rattle.lc_sheet.specs.{AttributeColumns.{heading_of, name_at}, ColumnWords.{plain_name, side_of}, Values.{ValueModel, number}}
use Rattle.lc_sheet.specs.{Sheets.{SectionModel, SheetModel}, declared.column.{Column.Column, Side.{Side, TheVariants.{Left, Right}}}}
use Rattle.lc_formats.specs.{BarCells.ruled, Blanks.ends_in_blank, Cells.{cell_of, heading_cells, heading_value, line_cells, section_cells}}
use Rattle.lc_formats.specs.{Cells.{shown_in, shown_text}, Columns.{CellModel, before_shown, has_text, is_shown, rule_in, shown_cells}}
use Rattle.lc_formats.specs.{Columns.widths_of, Layouts.has_no_end, PaddedText.{padded_counts, padded_rows, padded_summary}}
use Rattle.lc_formats.specs.{Readable.{AreReadable, AreRows, EndsInNumbers, IsNumeral, IsTabular}, Shares.full_bar, TableText.count_cells}
use Rattle.lc_formats.specs.{TableText.{count_lines, counts_of, entries_line, row_lines, rows_in_columns, shown_lines, shown_totals}}
use Rattle.lc_formats.specs.{TableText.{summary, summary_bar, summary_widths}, WidthLaws.{CountsWidthLaw, SummaryWidthLaw}}
use Rattle.lc_formats.proofs.{BlankEnds.{ends_bar, ends_change, ends_growth, ends_number, ends_share, shown_number}, EvenLines.Fit}
use Rattle.lc_formats.proofs.{EvenLines.{IsSound, span}, EvenParts.{IsEven, IsRow, are_even, even-append, even_line, even_lines, even_rule}}
use Rattle.lc_formats.proofs.{EvenParts.{rows_fit, rule_line, shown}, PrintedLines.EndsBare, SoundValues.{like_headings, like_line}}
use Rattle.lc_formats.proofs.{SoundValues.{named_at, shown_clear, sound_ascii, sound_value, visible_clear}}

-- ---- the ends of the lines

abbrev AreBare : List CellModel → Type 0
AreBare [] = Unit {0}
AreBare (c ∷ cs) = (ends_in_blank c.text ≡ false) × AreBare cs

bare_ends : (cells : List CellModel) → AreBare cells → EndsBare cells
bare_ends [] bare = tt
bare_ends (c ∷ cs) bare = ((λ none. bare.0), bare_ends cs bare.1)

later_none : (c : CellModel) (later : List CellModel) → before_shown c later ≡ [] → later ≡ []
later_none c later none = grind (arith, common_steps)

shown_rest : (ks ns : List CellModel) → shown_cells (ks ++ ns) ≡ [] → shown_cells ns ≡ []
shown_rest [] ns none = none
shown_rest (k ∷ ks) ns none = shown_rest ks ns (later_none k (shown_cells (ks ++ ns)) none)

some_shown : (c : CellModel) (later : List CellModel) → is_shown c.side c.text ≡ true → before_shown c later ≡ [] → ⊥
some_shown c later is none = grind (arith, common_steps)

-- names before numbers
bare_behind : (ks : List CellModel) (c : CellModel) (cs : List CellModel) → is_shown c.side c.text ≡ true → AreBare (c ∷ cs)
    → EndsBare (ks ++ (c ∷ cs))
bare_behind [] c cs is bare = bare_ends (c ∷ cs) bare
bare_behind (k ∷ ks) c cs is bare = grind (arith, common_steps, bare_ends, some_shown, shown_rest, bare_behind ks c cs is bare)

bare_numeral : (k : ℕ) (v : ValueModel) → IsNumeral v → ends_in_blank (shown_in k v) ≡ false
bare_numeral k v is = grind (arith, common_steps, ends_number, ends_share, ends_bar, ends_change, ends_growth)

bare_numerals : (k : ℕ) (columns : List Column) (values : List ValueModel) → All IsNumeral values → AreBare (line_cells k columns values)
bare_numerals k [] values are = tt
bare_numerals k (c ∷ cs) [] are = tt
bare_numerals k (c ∷ cs) (v ∷ vs) are =
    (bare_numeral k v (All-head IsNumeral v vs are), bare_numerals k cs vs (All-tail IsNumeral v vs are))

number_shown : (side : Side) (t : List ℕ) → has_text t ≡ true → is_shown side t ≡ true
number_shown side t is = grind (arith, common_steps)

-- the cells before one value, its own and those after it
parted : (k : ℕ) (columns : List Column) (keys : List ValueModel) (v : ValueModel) (more : List ValueModel)
    → AreReadable columns (keys ++ v ∷ more) → (front : List CellModel) × (c : Column) × (cs : List Column)
    × (line_cells k columns (keys ++ v ∷ more) ≡ front ++ (cell_of k c v ∷ line_cells k cs more))
parted k [] [] v more own = absurd own
parted k [] (y ∷ ys) v more own = absurd own
parted k (c ∷ cs) [] v more own = ([], c, cs, refl)
parted k (c ∷ cs) (y ∷ ys) v more own =
    let rest = parted k cs ys v more own.1 in
    (cell_of k c y ∷ rest.0, rest.1, rest.2, ap (λ (l : List CellModel). cell_of k c y ∷ l) rest.3)

bare_parted : (k : ℕ) (columns : List Column) (keys : List ValueModel) (n : ℕ) (more : List ValueModel)
    → AreReadable columns (keys ++ number n ∷ more) → All IsNumeral more → EndsBare (line_cells k columns (keys ++ number n ∷ more))
bare_parted k columns keys n more own are =
    let parts = parted k columns keys (number n) more own in
    let c = parts.1 in
    subst EndsBare (sym parts.3)
    (bare_behind parts.0 (cell_of k c (number n)) (line_cells k parts.2 more) (number_shown (side_of c) _ (shown_number n))
    (ends_number n, bare_numerals k parts.2 more are))

bare_line : (k : ℕ) (columns : List Column) (values : List ValueModel) → AreReadable columns values → EndsInNumbers values
    → EndsBare (line_cells k columns values)
bare_line k columns values own ends = grind (arith, common_steps, bare_parted)

-- names whose headings end in no blank
abbrev BareNames : List (List ℕ) → Type 0
BareNames names = All (λ n. ends_in_blank (visible_bytes (heading_of n)) ≡ false) names

bare_attribute : (names : List (List ℕ)) → BareNames names → (place : ℕ)
    → ends_in_blank (named visible_bytes (plain_name (heading_of (name_at names place)))) ≡ false
bare_attribute names bare place =
    let shown = visible_bytes (heading_of (name_at names place)) in
    ap ends_in_blank {y = shown} (append-nil (shown ++ []) ∙ append-nil shown)
    ∙ named_at (λ n. ends_in_blank (visible_bytes (heading_of n)) ≡ false) (ap ends_in_blank (visible_clear [] refl refl)) names bare
    place

heading_bare : (names : List (List ℕ)) → BareNames names → (c : Column) → ends_in_blank (shown_text (heading_value names c)) ≡ false
heading_bare names bare c = grind (arith, common_steps, bare_attribute, shown_clear)

bare_headings : (names : List (List ℕ)) → BareNames names → (columns : List Column) → AreBare (heading_cells names columns)
bare_headings names bare [] = tt
bare_headings names bare (c ∷ cs) = (heading_bare names bare c, bare_headings names bare cs)

-- ---- lines that are alike, some with a rule between

module _ {X : Type 0} (P : X → Type 0) where
  All-front : (xs ys : List X) → All P (xs ++ ys) → All P xs
  All-front [] ys all = All-nil P
  All-front (x ∷ xs) ys all = All-cons P x xs (All-head P x (xs ++ ys) all) (All-front xs ys (All-tail P x (xs ++ ys) all))

  All-back : (xs ys : List X) → All P (xs ++ ys) → All P ys
  All-back [] ys all = all
  All-back (x ∷ xs) ys all = All-back xs ys (All-tail P x (xs ++ ys) all)

abbrev pub even_rows_lines : ℕ → List ℕ → List CellModel → List (List CellModel) → List (List CellModel) → List (List ℕ)
even_rows_lines k ws headings rows sums =
    (shown ws headings ∷ []) ++ (rule_line k ws ∷ []) ++ map (shown ws) rows ++ (rule_line k ws ∷ []) ++ map (shown ws) sums

rows_even : (k : ℕ) (ss : List Side) (headings : List CellModel) (rows sums : List (List CellModel)) (ws : List ℕ) → has_no_end ss ≡ true
    → All (Fit ws) (headings ∷ (rows ++ sums)) → length ws ≡ length ss → All (IsRow ss) (headings ∷ (rows ++ sums))
    → IsEven (span ss ws) (even_rows_lines k ws headings rows sums) (padded_rows k ws headings rows sums)
    (rows_in_columns ws (rule_in (ruled k ws)) headings rows sums)
rows_even k ss headings rows sums ws closed fits long are =
    let n = span ss ws in
    let rest_fits = All-tail (Fit ws) headings (rows ++ sums) fits in
    let rest_are = All-tail (IsRow ss) headings (rows ++ sums) are in
    let rule = even_rule k ss ws closed long in
    let top = even_line ss ws headings closed (All-head (Fit ws) headings (rows ++ sums) fits)
    (All-head (IsRow ss) headings (rows ++ sums) are) in
    let middle = even_lines ss ws rows closed (All-front (Fit ws) rows sums rest_fits) (All-front (IsRow ss) rows sums rest_are) in
    let last = even_lines ss ws sums closed (All-back (Fit ws) rows sums rest_fits) (All-back (IsRow ss) rows sums rest_are) in
    even-append n _ _ _ _ _ _ (even-append n _ _ _ _ _ _ (even-append n _ _ _ _ _ _ (even-append n _ _ _ _ _ _ top rule) middle) rule) last

-- ---- the rows and their sums

-- the lines of a section in these columns
abbrev AreRowsIn : List Column → List (List CellModel) → Type 0
AreRowsIn columns lines = All (IsRow (map side_of columns)) lines

rows_of_lines : (k : ℕ) (columns : List Column) (lines : List (List ValueModel)) → All (AreReadable columns) lines
    → All EndsInNumbers lines → AreRowsIn columns (map (line_cells k columns) lines)
rows_of_lines k columns [] own ends = All-nil (IsRow (map side_of columns))
rows_of_lines k columns (l ∷ ls) own ends =
    let here = All-head (AreReadable columns) l ls own in
    All-cons (IsRow (map side_of columns)) (line_cells k columns l) (map (line_cells k columns) ls)
    (like_line k columns l here, bare_line k columns l here (All-head EndsInNumbers l ls ends))
    (rows_of_lines k columns ls (All-tail (AreReadable columns) l ls own) (All-tail EndsInNumbers l ls ends))

rows_of_section : (k : ℕ) (columns : List Column) (s : SectionModel) → AreRows columns s → AreRowsIn columns (section_cells k s)
rows_of_section k columns s are =
    subst (λ (cs : List Column). AreRowsIn columns (map (line_cells k cs) s.lines)) (sym are.in_columns)
    (rows_of_lines k columns s.lines are.readable are.numbers)

-- and so are the first of its lines alone
rows_shown : (all : Bool) (columns : List Column) (s : SectionModel) → AreRows columns s → AreRows columns (shown_lines all s)
rows_shown true columns s are = record { in_columns = are.in_columns; readable = are.readable; numbers = are.numbers }
rows_shown false columns s are = record {
  in_columns = are.in_columns;
  readable = All-take (AreReadable columns) 1 s.lines are.readable;
  numbers = All-take EndsInNumbers 1 s.lines are.numbers;
}

-- how many cells the longest bar of a sheet has, and how wide the columns of its rows are
abbrev bar_of : SheetModel → ℕ
bar_of s = summary_bar s.rows s.others (shown_totals s)

abbrev widths_in : SheetModel → List ℕ
widths_in s = summary_widths (bar_of s) s.rows s.others (shown_totals s)

abbrev pub summary_span : SheetModel → ℕ
summary_span s = span (map side_of s.rows.columns) (widths_in s)

abbrev pub summary_lines : SheetModel → List (List ℕ)
summary_lines s =
    even_rows_lines (bar_of s) (widths_in s) (heading_cells s.rows.attributes s.rows.columns) (row_lines (bar_of s) s.rows s.others)
    (section_cells (bar_of s) (shown_totals s))

pub even_summary : (s : SheetModel) → IsTabular s → IsEven (summary_span s) (summary_lines s) (padded_summary s) (summary s)
even_summary s is =
    let k = bar_of s in
    let columns = s.rows.columns in
    let R = IsRow (map side_of columns) in
    let headings = heading_cells s.rows.attributes columns in
    let rows = row_lines k s.rows s.others in
    let sums = section_cells k (shown_totals s) in
    let seen = All-append R (section_cells k s.rows) (section_cells k s.others) (rows_of_section k columns s.rows is.rows)
    (rows_of_section k columns s.others is.others) in
    let all = All-append R rows sums seen
    (rows_of_section k columns (shown_totals s) (rows_shown s.some_binary columns s.totals is.totals)) in
    let are = All-cons R headings (rows ++ sums) (
      like_headings s.rows.attributes columns is.names,
      bare_ends headings (bare_headings s.rows.attributes is.bare columns),
    ) all in
    let fits = rows_fit (map side_of columns) headings (rows ++ sums) are in
    rows_even k (map side_of columns) headings rows sums (widths_in s) is.closed fits.0 fits.1 are

-- the lines of rows and sums
pub summary_law : SummaryWidthLaw
summary_law s is = are_even (summary_span s) (summary_lines s) (padded_summary s) (summary s) (even_summary s is)

-- ---- the numbers of directories and of their entries

abbrev pub count_sides : List Side
count_sides = Left ∷ Right ∷ []

row_count : (t : List ℕ) (n : ℕ) → IsSound Left t → ends_in_blank t ≡ false → IsRow count_sides (count_cells t n)
row_count t n sound own = ((refl, (sound, (sound_value full_bar Right (number n) tt, tt))), ((λ none. own), ((λ none. ends_number n), tt)))

rows_entries : (entries : Option ℕ) → All (IsRow count_sides) (entries_line entries)
rows_entries None = All-nil (IsRow count_sides)
rows_entries (Some n) =
    All-cons (IsRow count_sides) (count_cells (codes "entries") n) []
    (row_count (codes "entries") n (sound_ascii Left (codes "entries") refl refl) refl) (All-nil (IsRow count_sides))

pub even_counts : (directories : ℕ) (entries : Option ℕ)
    → IsEven (span count_sides (widths_of (count_lines directories entries)))
    (map (shown (widths_of (count_lines directories entries))) (count_lines directories entries))
    (padded_counts directories entries) (counts_of directories entries)
even_counts directories entries =
    let first = count_cells (codes "directories") directories in
    let more = entries_line entries in
    let are = All-cons (IsRow count_sides) first more
    (row_count (codes "directories") directories (sound_ascii Left (codes "directories") refl refl) refl) (rows_entries entries) in
    even_lines count_sides (widths_of (count_lines directories entries)) (first ∷ more) refl (rows_fit count_sides first more are).0 are

-- the lines of directories and entries
pub counts_law : CountsWidthLaw
counts_law directories entries =
    let widths = widths_of (count_lines directories entries) in
    are_even (span count_sides widths) (map (shown widths) (count_lines directories entries)) (padded_counts directories entries)
    (counts_of directories entries) (even_counts directories entries)
