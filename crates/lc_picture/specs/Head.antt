-- The head of a page: its title, which number of which files is drawn, and the sums over all files.
use Rattle.std.specs.Prelude.{ℕ, List, [], ◌∷◌, ◌++◌, codes}
use Rattle.lc_rows.specs.SheetLaws.{first_number}
use Rattle.lc_sheet.specs.{Sheets.SectionModel, declared.column.Number.{Number, TheVariants.{Files, Lines, Blank, Bytes}}}
use Rattle.lc_text.specs.Visible.{visible_path}
use Rattle.lc_picture.specs.{Pieces.{Piece, count, markup, name, title, word}, Style.{body_begin, page_begin, style, style_begin}}

-- the part of a page between its title and the name of the drawn number
abbrev pub by_begin : List ℕ
by_begin = codes "</h1>\n<p class=\"by\">"

abbrev pub figures_begin : List ℕ
figures_begin = codes "</p>\n<dl>\n"

-- the words after the name of the drawn number: which files it is of, if some were chosen
abbrev pub chosen_files : List ℕ → List Piece
chosen_files [] = markup (codes " by directory") ∷ []
chosen_files (b ∷ bs) = markup (codes " of files ") ∷ name (visible_path (b ∷ bs)) ∷ []

-- which number of which files is drawn, such as `lines of files where ext=.c`
abbrev pub what_is_drawn : List ℕ → Number → List Piece
what_is_drawn chosen by = word by ∷ chosen_files chosen

-- the beginning of a page: the title in a browser's tab, and the style
abbrev pub page_top : List ℕ → List ℕ → Number → List Piece
page_top named chosen by =
    (markup page_begin ∷ title (visible_path named) ∷ markup (codes ": ") ∷ [])
    ++ (what_is_drawn chosen by ++ markup style_begin ∷ markup style ∷ [])

-- the heading of a page: its title, and what is drawn
abbrev pub heading : List ℕ → List ℕ → Number → List Piece
heading named chosen by =
    (markup body_begin ∷ name (visible_path named) ∷ markup by_begin ∷ []) ++ (what_is_drawn chosen by ++ markup figures_begin ∷ [])

-- one of the sums over all files, with the words that name it
abbrev pub figure : Number → ℕ → List Piece
figure number n =
    markup (codes "<div><dt>") ∷ word number ∷ markup (codes "</dt><dd>") ∷ count n ∷ markup (codes "</dd></div>\n") ∷ []

abbrev pub figures : ℕ → ℕ → ℕ → ℕ → List Piece
figures files lines blank bytes = figure Files files ++ (figure Lines lines ++ (figure Blank blank ++ figure Bytes bytes))

abbrev pub figures_end : List Piece
figures_end = markup (codes "</dl>\n") ∷ []

-- the four numbers in the first line of a sheet's totals, with the words that name them
abbrev pub figures_of : SectionModel → List Piece
figures_of totals = figures (first_number Files totals) (first_number Lines totals) (first_number Blank totals) (first_number Bytes totals)

abbrev pub head_part : List ℕ → List ℕ → Number → SectionModel → List Piece
head_part named chosen by totals = page_top named chosen by ++ (heading named chosen by ++ (figures_of totals ++ figures_end))
