-- The statements of the laws about pages.
use Rattle.std.specs.Prelude.{◌≡◌, ◌+◌, ◌*◌, ◌-◌, ℕ, nat_eq, Bool, true, false, if◌then◌else◌, List, [], ◌∷◌, ◌++◌, map, flat_map, codes}
use Rattle.std.specs.Prelude.{◌==◌, ◌&&◌, ◌<◌, ◌≤◌, ⊤, bytes_eq, length, nat_le, nat_lt, take, Option, Some, None}
use Rattle.std.specs.List.{Contains, filter, list_any}
use Rattle.std.specs.List.{slice_index_or}
use Rattle.lc_rows.specs.{Directories.directory_of, RowKeys.ShownRowModel, SheetLaws.first_number, Sheets.sheet_of, ShownRows.AreShown}
use Rattle.lc_rows.specs.{ShownRows.number_in, Views.ViewModel}
use Rattle.lc_sheet.specs.{Sheets.{SectionModel, SheetModel}, Values.ValueModel, declared.column.Number.Number}
use Rattle.lc_sheet.specs.declared.column.Number.TheVariants.{Files, Lines, Blank, Bytes}
use Rattle.lc_walk.specs.{TallyRows.TallyRowModel, declared.{report.Report.Report, tally.sums.Sums.Sums}}
use Rattle.lc_text.specs.{Names.named, Visible.{visible_bytes, visible_path}}
use Rattle.lc_picture.specs.{Boxes.{BoxModel, box_of, drawn_boxes, moved}, Chains.{goes_on, joined}, Chart.line_colour}
use Rattle.lc_picture.specs.{Colours.{colour_of, shared_colour}, Escaping.html, Faults.faults_listed, Files.{box_of_file, is_large, large_files, with_files}}
use Rattle.lc_picture.specs.{Page.{chart_columns, chart_options, chart_view, page_pieces, scale_of}, Pieces.{Piece, count, markup, name}}
use Rattle.lc_picture.specs.{Pieces.{percent, share, title, word}, Small.no_directories, declared.scale.Scale.Scale}
use Rattle.lc_picture.specs.{Legend.visible_extension, Nested.boxes_in, Rests.shown_name, Strips.{first_strip, strip_of}}
use Rattle.lc_level.specs.{FaultLines.FaultLineModel, FaultWords.fault_word, Level.FileLineModel}
use Rattle.lc_sheet.specs.Values as value

-- whether a byte can begin or end a tag or an attribute
abbrev pub is_tag_byte : ℕ → Bool
is_tag_byte b = list_any (λ m. nat_eq m b) (codes "<>\"'")

-- no name begins or ends a tag or an attribute
abbrev pub TagLaw : Type 0
TagLaw = (text : List ℕ) → list_any is_tag_byte (html text) ≡ false

-- a text with its character references of two digits replaced by their bytes
abbrev pub unescaped : List ℕ → List ℕ
unescaped [] = []
unescaped (b ∷ []) = b ∷ []
unescaped (b ∷ c ∷ []) = b ∷ c ∷ []
unescaped (b ∷ c ∷ d ∷ []) = b ∷ c ∷ d ∷ []
unescaped (b ∷ c ∷ d ∷ e ∷ []) = b ∷ c ∷ d ∷ e ∷ []
unescaped (b ∷ c ∷ d ∷ e ∷ f ∷ fs) =
    if nat_eq 38 b then (10 * (d - 48) + (e - 48)) ∷ unescaped fs else b ∷ unescaped (c ∷ d ∷ e ∷ f ∷ fs)

-- a name reads back: escaped, and with its references replaced, it is the same
abbrev pub UnescapedLaw : Type 0
UnescapedLaw = (text : List ℕ) → unescaped (html text) ≡ text

-- whether a page shows a piece to its reader that is not fixed text, not the word for a number, and not a number in a tag
abbrev pub is_shown : Piece → Bool
is_shown (markup t) = false
is_shown (share n) = false
is_shown (word n) = false
is_shown (count n) = true
is_shown (percent part whole) = true
is_shown (title t) = true
is_shown (name t) = true

-- the pieces that sums show in a title, in the order of their words
abbrev pub counts : Sums → List Piece
counts s = count s.lines ∷ count s.files ∷ count s.blank ∷ count s.bytes ∷ []

-- what a page shows of the chosen files
abbrev pub shown_of_chosen : List ℕ → List Piece
shown_of_chosen [] = []
shown_of_chosen (b ∷ bs) = name (visible_path (b ∷ bs)) ∷ []

-- the title and the chosen files, in the browser's title and on the page
abbrev pub shown_of_title : List ℕ → List ℕ → List Piece
shown_of_title named chosen =
    title (visible_path named) ∷ (shown_of_chosen chosen ++ name (visible_path named) ∷ shown_of_chosen chosen)

-- what the head of a page shows: the title, the chosen files, and the numbers of the totals
abbrev pub shown_of_head : List ℕ → List ℕ → SectionModel → List Piece
shown_of_head named chosen totals =
    shown_of_title named chosen ++ count (first_number Files totals) ∷ count (first_number Lines totals)
    ∷ count (first_number Blank totals) ∷ count (first_number Bytes totals) ∷ []

-- what the list of errors shows: how many there are, the path and the word of each of the first, and how many more
abbrev pub shown_of_fault : FaultLineModel → List Piece
shown_of_fault f = name (visible_path f.path) ∷ name (fault_word f.word) ∷ []

abbrev pub shown_of_more : ℕ → ℕ → List Piece
shown_of_more listed all = if nat_lt listed all then count (all - listed) ∷ [] else []

abbrev pub shown_of_faults : List FaultLineModel → List Piece
shown_of_faults [] = []
shown_of_faults (f ∷ fs) =
    count (length (f ∷ fs)) ∷ (flat_map shown_of_fault (take faults_listed (f ∷ fs)) ++ shown_of_more faults_listed (length (f ∷ fs)))

-- what the cell of a value shows: its text, or its number. Bars are numbers in tags, which are not shown
abbrev pub shown_of_value : ValueModel → List Piece
shown_of_value value.missing = name (codes "-") ∷ []
shown_of_value value.summed = []
shown_of_value value.blank = []
shown_of_value (value.word w) = name w ∷ []
shown_of_value (value.flag is_set) = name (value.flag_word is_set) ∷ []
shown_of_value (value.name n) = name (named visible_bytes n) ∷ []
shown_of_value (value.path p) = name (visible_path p) ∷ []
shown_of_value (value.number n) = count n ∷ []
shown_of_value (value.share part whole) = percent part whole ∷ []
shown_of_value (value.bar part whole) = []
shown_of_value (value.difference old new) = []
shown_of_value (value.growth old new) = []

abbrev pub shown_of_line : List ValueModel → List Piece
shown_of_line values = flat_map shown_of_value values

-- the share of sums in the total over all files, by the number that a picture draws
abbrev pub share_in : Scale → Sums → Piece
share_in scale s = percent (number_in scale.by s) scale.whole

-- what a box shows: the path, the sums and the share; and the name, with the number that is drawn
abbrev pub shown_of_box : Scale → BoxModel → List Piece
shown_of_box scale b =
    title (visible_path b.path) ∷ (counts b.sums ++ share_in scale b.sums ∷ name (shown_name scale.by b) ∷ count (number_in scale.by b.sums) ∷ [])

abbrev pub shown_of_boxes : Scale → List BoxModel → List Piece
shown_of_boxes scale bs = flat_map (shown_of_box scale) bs

-- what the legend shows: each extension with a colour of its own, and its number
abbrev pub shown_of_entry : Number → ShownRowModel → List Piece
shown_of_entry by r = name (visible_extension r.key.tally.extension) ∷ count (number_in by r.sums) ∷ []

abbrev pub shown_of_legend : Number → List ShownRowModel → List Piece
shown_of_legend by chart = flat_map (shown_of_entry by) (take shared_colour chart)

-- a page shows its title, the chosen files, the sums over all files, what could not be read, the legend, the drawn directories, files and
-- rests with their sums and shares, and the names and the numbers of its sheet's rows and of the sums over the others: each once, in turn,
-- and nothing else
abbrev pub ShownLaw : Type 0
ShownLaw =
    (named chosen : List ℕ) (scale : Scale) (faults : List FaultLineModel) (chart : List ShownRowModel) (s : SheetModel)
    (boxes : List BoxModel) → filter is_shown (page_pieces named chosen scale faults chart s boxes)
    ≡ shown_of_head named chosen s.totals
    ++ (shown_of_faults faults ++ ((shown_of_legend scale.by chart ++ shown_of_boxes scale boxes)
    ++ (flat_map shown_of_line s.rows.lines ++ flat_map shown_of_line s.others.lines)))

-- the pieces that sums show in a line of the chart, in the order of columns
abbrev pub cell_counts : Sums → List Piece
cell_counts s = count s.files ∷ count s.lines ∷ count s.blank ∷ count s.bytes ∷ []

-- what the cells of a row show after its name: its sums and its share
abbrev pub row_counts : Scale → Sums → List Piece
row_counts scale s = cell_counts s ++ share_in scale s ∷ []

-- what a row of the chart shows: the extension, the sums and the share
abbrev pub shown_of_row : Scale → ShownRowModel → List Piece
shown_of_row scale r = name (visible_extension r.key.tally.extension) ∷ row_counts scale r.sums

abbrev pub shown_of_others : Scale → Option Sums → List Piece
shown_of_others scale None = []
shown_of_others scale (Some s) = name (codes "others") ∷ row_counts scale s

-- the page of a report shows its title, the chosen files, the sums over all files, the legend, the boxes, each extension of the chart with its sums and
-- its share, and the sums over the other extensions
abbrev pub ReportLaw : Type 0
ReportLaw =
    (named chosen : List ℕ) (by : Number) (r : Report) (v : ViewModel) (boxes : List BoxModel)
    → filter is_shown (page_pieces named chosen (scale_of by r.totals) r.faults.items v.rows (sheet_of (chart_options by) [] r v) boxes)
    ≡ (shown_of_title named chosen ++ cell_counts r.totals)
    ++ (shown_of_faults r.faults.items ++ ((shown_of_legend by v.rows ++ shown_of_boxes (scale_of by r.totals) boxes)
    ++ (flat_map (shown_of_row (scale_of by r.totals)) v.rows ++ shown_of_others (scale_of by r.totals) v.others)))

-- each row of the chart has the colour of its extension, which is also that of boxes
abbrev pub ColoursLaw : Type 0
ColoursLaw =
    (by : Number) (rs : List TallyRowModel) (fs : List FileLineModel) (extensions : List ShownRowModel) (place : ℕ) (d : ShownRowModel)
    → AreShown chart_columns (Some by) rs fs extensions → place < length (chart_view extensions).rows
    → colour_of (chart_view extensions).rows (slice_index_or (chart_view extensions).rows place d).key.tally.extension ≡ line_colour place

-- a box without its rows by extension and its small directories
abbrev pub bare : BoxModel → BoxModel
bare b = record {
  path = b.path;
  own_name = b.own_name;
  depth = b.depth;
  colour = b.colour;
  begins_strip = b.begins_strip;
  sums = b.sums;
  kinds = [];
  small = no_directories;
  is_file = b.is_file;
  is_rest = b.is_rest;
}

-- the directories that are drawn are those with at least the least number, each once, whatever the extensions and the small directories are
abbrev pub DrawnLaw : Type 0
DrawnLaw =
    (by : Number) (least : ℕ) (kinds tree : List ShownRowModel)
    → map bare (drawn_boxes by least kinds tree)
    ≡ map (λ r. box_of r [] no_directories) (filter (λ r. nat_le least (number_in by r.sums)) tree)

-- a box without its depth and its name
abbrev pub unplaced : BoxModel → BoxModel
unplaced b = moved 0 [] b

-- the boxes that are not in a chain, and the last one of each chain
abbrev pub ends_of_chains : Number → ℕ → List BoxModel → List BoxModel
ends_of_chains by least [] = []
ends_of_chains by least (b ∷ bs) = if goes_on by least b bs then ends_of_chains by least bs else b ∷ ends_of_chains by least bs

-- of each chain the last directory has a box, and boxes in no chain stay: but for depths and names they are the same
abbrev pub ChainsLaw : Type 0
ChainsLaw =
    (by : Number) (least : ℕ) (bs : List BoxModel) → map unplaced (joined by least bs) ≡ map unplaced (ends_of_chains by least bs)

-- boxes come depth first: the first is at most this deep, and each other at most one deeper than the box before it
abbrev pub ComeInDepth : ℕ → List BoxModel → Type 0
ComeInDepth deepest [] = ⊤
ComeInDepth deepest (b ∷ bs) = (b.depth ≤ deepest) × ComeInDepth (b.depth + 1) bs

-- boxes that come depth first also do with their chains joined
abbrev pub JoinedDepthsLaw : Type 0
JoinedDepthsLaw = (by : Number) (least : ℕ) (bs : List BoxModel) → ComeInDepth 0 bs → ComeInDepth 0 (joined by least bs)

-- each file with at least the least number has a box, if its directory has one
abbrev pub LargeLaw : Type 0
LargeLaw =
    (n : ℕ) (by : Number) (least : ℕ) (fs : List FileLineModel) (directories : List BoxModel) (f : FileLineModel) (b : BoxModel)
    → Contains fs f → is_large by least f ≡ true → Contains directories b → bytes_eq b.path (directory_of n f.path) ≡ true
    → Contains (with_files (large_files n by least fs) directories) (box_of_file (b.depth + 1) f)

-- a piece without its name
abbrev pub nameless : Piece → Piece
nameless (markup t) = markup t
nameless (share n) = share n
nameless (word n) = word n
nameless (count n) = count n
nameless (percent part whole) = percent part whole
nameless (title t) = title []
nameless (name t) = name []

-- a box without its name
abbrev pub outline : BoxModel → BoxModel
outline b = record {
  path = [];
  own_name = [];
  depth = b.depth;
  colour = b.colour;
  begins_strip = b.begins_strip;
  sums = b.sums;
  kinds = [];
  small = b.small;
  is_file = b.is_file;
  is_rest = b.is_rest;
}

-- apart from the names, the boxes depend on depths, colours, numbers and which of them are files alone: no name adds a tag, or takes one
-- away
abbrev pub OutlineLaw : Type 0
OutlineLaw =
    (scale : Scale) (bs cs : List BoxModel) → map outline bs ≡ map outline cs
    → map nameless (boxes_in scale 0 bs) ≡ map nameless (boxes_in scale 0 cs)

-- whether a piece begins a box, and for `ends_box` whether a piece ends a box
abbrev pub begins_box : Piece → Bool
begins_box (markup t) = bytes_eq t (codes "<div class=\"b e")
begins_box (share n) = false
begins_box (word n) = false
begins_box (count n) = false
begins_box (percent part whole) = false
begins_box (title t) = false
begins_box (name t) = false

abbrev pub ends_box : Piece → Bool
ends_box (markup t) = bytes_eq t (codes "</div></div>\n")
ends_box (share n) = false
ends_box (word n) = false
ends_box (count n) = false
ends_box (percent part whole) = false
ends_box (title t) = false
ends_box (name t) = false

-- how many boxes are open after some pieces, if `n` are open before them; none, if a box is closed where none is open
abbrev pub open_after : ℕ → List Piece → Option ℕ
open_after n [] = Some n
open_after n (p ∷ ps) =
    if begins_box p then open_after (n + 1) ps
    else if ends_box p then (if n == 0 then None else open_after (n - 1) ps)
    else open_after n ps

-- each box that is opened is closed, and no others
abbrev pub NestingLaw : Type 0
NestingLaw = (scale : Scale) (bs : List BoxModel) → open_after 0 (boxes_in scale 0 bs) ≡ Some 0

-- the boxes right in a box of this depth, which these boxes follow depth first
abbrev pub right_inside : ℕ → List BoxModel → List BoxModel
right_inside depth [] = []
right_inside depth (b ∷ bs) =
    if nat_le b.depth depth then []
    else if b.depth == depth + 1 then b ∷ right_inside depth bs
    else right_inside depth bs

-- the strips in a box of this depth after its first strip
abbrev pub later_strips : ℕ → List BoxModel → List (List BoxModel)
later_strips depth [] = []
later_strips depth (b ∷ bs) =
    if nat_le b.depth depth then []
    else if (b.depth == depth + 1) && b.begins_strip then strip_of b bs ∷ later_strips depth bs
    else later_strips depth bs

-- the strips in a box, joined, are the boxes right in it, each once and in the same order, where the first of them follows it
abbrev pub StripsLaw : Type 0
StripsLaw =
    (depth : ℕ) (b : BoxModel) (bs : List BoxModel) → b.depth ≡ depth + 1
    → flat_map (λ strip. strip) (first_strip depth (b ∷ bs) ∷ later_strips depth bs) ≡ right_inside depth (b ∷ bs)
