-- How wide the lines of a text in columns are: of the rows with their sums, of the counts, and of each list.
use Rattle.std.specs.{Prelude.{◌≡◌, ℕ, false, List, [], ◌∷◌, ◌++◌, map, Option, IfSome}, List.{All, AllZip}}
use Rattle.lc_sheet.specs.{Sheets.{SectionModel, SheetModel}, Values.ValueModel, declared.column.Column.Column}
use Rattle.lc_text.specs.Lines.{input_lines_of}
use Rattle.lc_formats.specs.{Blanks.{ends_in_blank, without_blanks}, Cells.{heading_value, shown_text}, Columns.width_of}
use Rattle.lc_formats.specs.{PaddedText.{padded_counts, padded_summary}, Readable.{IsListed, IsTabular}}
use Rattle.lc_formats.specs.TableText.{counts_of, section_listing, summary, table_of}

-- the lines have one width
abbrev pub AreAsWide : List (List ℕ) → Type 0
AreAsWide lines = (width : ℕ) × All (λ line. width_of line ≡ width) lines

-- the padded lines have one width, and the text has these lines without the blanks at their ends
abbrev pub AreEven : List ℕ → List ℕ → Type 0
AreEven padded text = AreAsWide (input_lines_of padded) × (input_lines_of text ≡ map without_blanks (input_lines_of padded))

-- the lines end with these texts, and what is before the texts has one width in all lines
abbrev pub AreAligned : List (List ℕ) → List (List ℕ) → Type 0
AreAligned lines ends =
    (width : ℕ) × AllZip (λ line end. (front : List ℕ) × (line ≡ front ++ end) × (width_of front ≡ width)) lines ends

-- an aligned list: a line that ends with the heading, lines that end with these texts, and an empty line; nothing if there are no texts
abbrev pub IsAlignedListing : List ℕ → List (List ℕ) → List ℕ → Type 0
IsAlignedListing heading [] text = text ≡ []
IsAlignedListing heading (end ∷ ends) text =
    (lines : List (List ℕ)) × (input_lines_of text ≡ lines ++ [] ∷ []) × AreAligned lines (heading ∷ end ∷ ends)

-- the heading of the last column; the last text of a line is below
abbrev pub last_heading : List (List ℕ) → List Column → List ℕ
last_heading attributes [] = []
last_heading attributes (c ∷ []) = shown_text (heading_value attributes c)
last_heading attributes (c ∷ d ∷ ds) = last_heading attributes (d ∷ ds)

abbrev pub last_text : List ValueModel → List ℕ
last_text [] = []
last_text (v ∷ []) = shown_text v
last_text (v ∷ w ∷ ws) = last_text (w ∷ ws)

-- the headings, the rows, the sums and the lines of hyphens between them have one width
abbrev pub SummaryWidthLaw : Type 0
SummaryWidthLaw = (s : SheetModel) → IsTabular s → AreEven (padded_summary s) (summary s)

-- the lines of the numbers of directories and of entries have one width
abbrev pub CountsWidthLaw : Type 0
CountsWidthLaw = (directories : ℕ) (entries : Option ℕ) → AreEven (padded_counts directories entries) (counts_of directories entries)

-- a list whose last column ends its line is aligned
abbrev pub ListingWidthLaw : Type 0
ListingWidthLaw =
    (s : SectionModel) → IsListed s → IsAlignedListing (last_heading s.attributes s.columns) (map last_text s.lines) (section_listing s)

-- a text that ends a line with something other than a blank
abbrev pub HasEnd : List ℕ → Type 0
HasEnd t = (t ≡ [] → ⊥) × (ends_in_blank t ≡ false)

-- a section that is listed, and in which the last text of no line is empty or ends with a blank
abbrev pub HasEnds : SectionModel → Type 0
HasEnds s = IsListed s × All (λ line. HasEnd (last_text line)) s.lines

-- no line of a text in columns ends with a blank if no last text of a listed line is empty or ends with a blank
abbrev pub LineEndsLaw : Type 0
LineEndsLaw =
    (s : SheetModel) → IsTabular s → IfSome s.files HasEnds → IfSome s.skipped HasEnds → IfSome s.faults HasEnds
    → All (λ line. ends_in_blank line ≡ false) (input_lines_of (table_of s))
