-- Cells of a table of GitHub Flavored Markdown.
use Rattle.std.specs.{Prelude.{ℕ, nat_eq, ◌==◌, Bool, true, false, ◌&&◌, ◌||◌, if◌then◌else◌, List, [], ◌∷◌, ◌++◌, codes}, List.list_any}
use Rattle.std.specs.List.{starts_with}
use Rattle.lc_glob.specs.Lists.{is_empty}
use Rattle.lc_sheet.specs.{Values.ValueModel, declared.column.Side.{Side, TheVariants.{Left, Right, End}}}
use Rattle.lc_formats.specs.{Cells.shown_text, declared.markdown_line.Weight.{Weight, TheVariants.{Plain, Bold}}}

-- the bytes that Markdown may take as markup in a cell
abbrev pub is_markup : ℕ → Bool
is_markup b = list_any (λ m. nat_eq m b) (codes "\\`*_[]<>&|~$")

-- a byte of a text in a cell: markup has a backslash before it; a blank at an end of the text, which GitHub would drop, is written as
-- `&#32;`
abbrev pub cell_byte : Bool → ℕ → List ℕ
cell_byte at_end b = if is_markup b then 92 ∷ b ∷ [] else if at_end && b == 32 then codes "&#32;" else b ∷ []

-- whether a text begins like the part of an address that makes GitHub show a link: `www.a.b`, `https://a.b`, `a@b.c`
abbrev pub begins_address : List ℕ → Bool
begins_address t =
    starts_with nat_eq t (codes "www.") || (starts_with nat_eq t (codes "://") || starts_with nat_eq t (codes "@"))

-- the tag that is put behind the first byte of such a text; it shows nothing, and a line may be broken there
abbrev pub break_in : List ℕ → List ℕ
break_in t = if begins_address t then codes "<wbr>" else []

-- the rest of a text in a cell; the flag says whether the rest is the whole text
abbrev pub markdown_from : Bool → List ℕ → List ℕ
markdown_from first [] = []
markdown_from first (b ∷ bs) = cell_byte (first || is_empty bs) b ++ (break_in (b ∷ bs) ++ markdown_from false bs)

abbrev pub markdown : List ℕ → List ℕ
markdown t = markdown_from true t

-- a text in bold; an empty text has no marks
abbrev pub bold : List ℕ → List ℕ
bold [] = []
bold (b ∷ bs) = codes "**" ++ (markdown (b ∷ bs) ++ codes "**")

abbrev pub weighted : Weight → List ℕ → List ℕ
weighted Plain t = markdown t
weighted Bold t = bold t

-- a value with the bar that ends its cell
abbrev pub value_cell : Weight → ValueModel → List ℕ
value_cell weight value = codes " " ++ (weighted weight (shown_text value) ++ codes " |")

-- the cell below a heading that sets the side of its column: a colon at the right for numbers
abbrev pub rule_cell : Side → List ℕ
rule_cell Left = codes " --- |"
rule_cell Right = codes " ---: |"
rule_cell End = codes " --- |"
