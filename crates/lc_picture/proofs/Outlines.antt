-- What a page shows, and what of it depends on no name.
use Rattle.std.proofs.Common.{◌≡◌, ℕ, ◌+◌, ◌-◌, ◌==◌, ◌&&◌, nat_le, Bool, true, false, if◌then◌else◌, List, [], ◌∷◌, ◌++◌, map, min, suc, zero}
use Rattle.std.proofs.{Common.{refl, sym, ap, ap₂, ◌∙◌, codes, length, nat_lt, take}, lemmas.List.{append-nil, length-map, map-append}}
use Rattle.std.proofs.lemmas.List.Elements.{filter-append}
use Rattle.std.specs.List.{filter, flat_map}
use Rattle.lc_rows.specs.{RowKeys.ShownRowModel, ShownRows.number_in}
use Rattle.lc_sheet.specs.{Sheets.{SectionModel, SheetModel}, Values.ValueModel, declared.column.Number.Number}
use Rattle.lc_picture.specs.{declared.scale.Scale.Scale, Boxes.{BoxModel, box_of, drawn_boxes}, Chart.{cell, cells, cells_in, chart}}
use Rattle.lc_picture.specs.{Chart.{coloured_line, coloured_lines, plain_line, plain_lines}, Colours.{first_rows_of, path_of, rows_from}}
use Rattle.lc_picture.specs.{Colours.shared_colour, Faults.{fault_lines, faults_end, faults_listed, faults_part, more_faults}}
use Rattle.lc_picture.specs.Laws.{DrawnLaw, OutlineLaw, ShownLaw, bare, is_shown, nameless, outline, shown_of_box, shown_of_boxes}
use Rattle.lc_picture.specs.Laws.{shown_of_entry, shown_of_fault, shown_of_faults, shown_of_head, shown_of_legend, shown_of_line}
use Rattle.lc_picture.specs.{Laws.{shown_of_more, shown_of_value}, Head.head_part, Legend.{legend, legend_from}}
use Rattle.lc_picture.specs.Nested.{boxes_in, closings, next_box, opening, strip_tag}
use Rattle.lc_picture.specs.{Page.{body_pieces, chart_part, legend_begin, page_end, tree_begin, tree_part}, Pieces.{Piece, count, markup}}
use Rattle.lc_picture.specs.{Small.{no_directories, row_level, small_in}, Strips.{first_strip, strip_left, strip_number, strip_of}}
use Rattle.lc_level.specs.FaultLines.{FaultLineModel}
use Rattle.lc_picture.proofs.Openings.{opening_with, strip_with}
use Rattle.lc_sheet.specs.Values as value

-- ---- what a page shows

closings_show : (n : ℕ) → filter is_shown (closings n) ≡ []
closings_show zero = refl
closings_show (suc n) = closings_show n

opening_shows : (scale : Scale) (b : BoxModel) (place strip : ℕ) (rest file : Bool)
    → filter is_shown (opening_with scale b place strip rest file) ≡ shown_of_box scale b
opening_shows scale b place strip true file = refl
opening_shows scale b place strip false true = refl
opening_shows scale b place strip false false = refl

strip_shows : (strip : ℕ) (there : Bool) (ps : List Piece) → filter is_shown (strip_with there strip ++ ps) ≡ filter is_shown ps
strip_shows strip true ps = refl
strip_shows strip false ps = refl

box_shows : (scale : Scale) (within : ℕ) (b : BoxModel) (bs : List BoxModel)
    → filter is_shown (next_box scale within b bs) ≡ shown_of_box scale b
box_shows scale within b bs =
    let further : List Piece = strip_tag scale.by within b bs in
    let opened : List Piece = opening scale b bs in
    filter-append is_shown (closings (within - b.depth)) (further ++ opened)
    ∙ ap (λ (ps : List Piece). ps ++ filter is_shown (further ++ opened)) (closings_show (within - b.depth))
    ∙ strip_shows (strip_number scale.by (strip_of b bs)) (b.begins_strip && nat_lt b.depth within) opened
    ∙ opening_shows scale b (length bs) (strip_number scale.by (first_strip b.depth bs)) b.is_rest b.is_file

boxes_show : (scale : Scale) (within : ℕ) (bs : List BoxModel) → filter is_shown (boxes_in scale within bs) ≡ shown_of_boxes scale bs
boxes_show scale within [] = closings_show within
boxes_show scale within (b ∷ bs) =
    filter-append is_shown (next_box scale within b bs) (boxes_in scale (min within b.depth + 1) bs)
    ∙ ap₂ (λ (ps qs : List Piece). ps ++ qs) (box_shows scale within b bs) (boxes_show scale (min within b.depth + 1) bs)

legend_shows : (by : Number) (colour : ℕ) (rs : List ShownRowModel)
    → filter is_shown (legend_from by colour rs) ≡ flat_map (shown_of_entry by) rs
legend_shows by colour [] = refl
legend_shows by colour (r ∷ rs) = ap (λ (ps : List Piece). shown_of_entry by r ++ ps) (legend_shows by (colour + 1) rs)

tree_shows : (scale : Scale) (chart : List ShownRowModel) (bs : List BoxModel)
    → filter is_shown (tree_part scale chart bs) ≡ shown_of_legend scale.by chart ++ shown_of_boxes scale bs
tree_shows scale chart bs =
    let legend_end : List Piece = markup tree_begin ∷ [] in
    let entries : List Piece = legend scale.by chart in
    filter-append is_shown (markup legend_begin ∷ (entries ++ legend_end)) _
    ∙ ap₂ (λ (ps qs : List Piece). ps ++ qs)
    (filter-append is_shown entries legend_end ∙ append-nil (filter is_shown entries) ∙ legend_shows scale.by 0 (take shared_colour chart))
    (filter-append is_shown (boxes_in scale 0 bs) _ ∙ append-nil (filter is_shown (boxes_in scale 0 bs)) ∙ boxes_show scale 0 bs)

value_shows : (v : ValueModel) → filter is_shown (cell v) ≡ shown_of_value v
value_shows value.missing = refl
value_shows value.summed = refl
value_shows value.blank = refl
value_shows (value.word w) = refl
value_shows (value.flag is_set) = refl
value_shows (value.name n) = refl
value_shows (value.path p) = refl
value_shows (value.number n) = refl
value_shows (value.share part whole) = refl
value_shows (value.bar part whole) = refl
value_shows (value.difference old new) = refl
value_shows (value.growth old new) = refl

values_show : (vs : List ValueModel) → filter is_shown (cells_in vs) ≡ shown_of_line vs
values_show [] = refl
values_show (v ∷ vs) =
    filter-append is_shown (cell v) (cells_in vs) ∙ ap₂ (λ (ps qs : List Piece). ps ++ qs) (value_shows v) (values_show vs)

line_shows : (vs : List ValueModel) → filter is_shown (cells vs) ≡ shown_of_line vs
line_shows vs = filter-append is_shown (cells_in vs) _ ∙ append-nil (filter is_shown (cells_in vs)) ∙ values_show vs

plain_show : (lines : List (List ValueModel)) → filter is_shown (plain_lines lines) ≡ flat_map shown_of_line lines
plain_show [] = refl
plain_show (line ∷ lines) =
    filter-append is_shown (plain_line line) (plain_lines lines)
    ∙ ap₂ (λ (ps qs : List Piece). ps ++ qs) (line_shows line) (plain_show lines)

coloured_show : (place : ℕ) (lines : List (List ValueModel)) → filter is_shown (coloured_lines place lines) ≡ flat_map shown_of_line lines
coloured_show place [] = refl
coloured_show place (line ∷ lines) =
    filter-append is_shown (coloured_line place line) (coloured_lines (place + 1) lines)
    ∙ ap₂ (λ (ps qs : List Piece). ps ++ qs) (line_shows line) (coloured_show (place + 1) lines)

chart_shows : (s : SheetModel)
    → filter is_shown (chart_part s) ≡ flat_map shown_of_line s.rows.lines ++ flat_map shown_of_line s.others.lines
chart_shows s =
    filter-append is_shown (chart s) (markup page_end ∷ []) ∙ append-nil (filter is_shown (chart s))
    ∙ filter-append is_shown (coloured_lines 0 s.rows.lines) (plain_lines s.others.lines)
    ∙ ap₂ (λ (ps qs : List Piece). ps ++ qs) (coloured_show 0 s.rows.lines) (plain_show s.others.lines)

fault_shows : (fs : List FaultLineModel) → filter is_shown (fault_lines fs) ≡ flat_map shown_of_fault fs
fault_shows [] = refl
fault_shows (f ∷ fs) = ap (λ (ps : List Piece). shown_of_fault f ++ ps) (fault_shows fs)

more_shows : (listed all : ℕ) (some : Bool) → nat_lt listed all ≡ some
    → filter is_shown (more_faults listed all ++ markup (codes "</ul>\n") ∷ []) ≡ shown_of_more listed all
more_shows listed all true e = rw e refl
more_shows listed all false e = rw e refl

faults_show : (fs : List FaultLineModel) → filter is_shown (faults_part fs) ≡ shown_of_faults fs
faults_show [] = refl
faults_show (f ∷ fs) =
    let all : ℕ = length (f ∷ fs) in
    let first : List FaultLineModel = take faults_listed (f ∷ fs) in
    ap (λ (ps : List Piece). count all ∷ ps)
    (filter-append is_shown (fault_lines first) (faults_end all)
    ∙ ap₂ (λ (ps qs : List Piece). ps ++ qs) (fault_shows first) (more_shows faults_listed all _ refl))

head_shows : (named chosen : List ℕ) (by : Number) (totals : SectionModel)
    → filter is_shown (head_part named chosen by totals) ≡ shown_of_head named chosen totals
head_shows named [] by totals = refl
head_shows named (b ∷ bs) by totals = refl

pub shown_law : ShownLaw
shown_law named chosen scale faults chart s boxes =
    filter-append is_shown (head_part named chosen scale.by s.totals) (body_pieces scale faults chart s boxes)
    ∙ ap₂ (λ (ps qs : List Piece). ps ++ qs) (head_shows named chosen scale.by s.totals)
    (filter-append is_shown (faults_part faults) (tree_part scale chart boxes ++ chart_part s)
    ∙ ap₂ (λ (ps qs : List Piece). ps ++ qs) (faults_show faults)
    (filter-append is_shown (tree_part scale chart boxes) (chart_part s)
    ∙ ap₂ (λ (ps qs : List Piece). ps ++ qs) (tree_shows scale chart boxes) (chart_shows s)))

-- ---- the directories that are drawn

drawn_row : (by : Number) (least : ℕ) (r : ShownRowModel) (rs kinds : List ShownRowModel) (drawn : Bool)
    → map bare (drawn_boxes by least (rows_from (path_of r) kinds) rs)
    ≡ map (λ s. box_of s [] no_directories) (filter (λ s. nat_le least (number_in by s.sums)) rs)
    → map bare (drawn_boxes by least kinds rs)
    ≡ map (λ s. box_of s [] no_directories) (filter (λ s. nat_le least (number_in by s.sums)) rs)
    → map bare (if drawn
    then box_of r (first_rows_of (path_of r) (rows_from (path_of r) kinds)) (small_in by least (row_level r) rs)
    ∷ drawn_boxes by least (rows_from (path_of r) kinds) rs
    else drawn_boxes by least kinds rs)
    ≡ map (λ s. box_of s [] no_directories) (if drawn then r ∷ filter (λ s. nat_le least (number_in by s.sums)) rs
    else filter (λ s. nat_le least (number_in by s.sums)) rs)
drawn_row by least r rs kinds true drawn left = ap (λ (bs : List BoxModel). box_of r [] no_directories ∷ bs) drawn
drawn_row by least r rs kinds false drawn left = left

pub drawn_law : DrawnLaw
drawn_law by least kinds [] = refl
drawn_law by least kinds (r ∷ rs) =
    drawn_row by least r rs kinds (nat_le least (number_in by r.sums)) (drawn_law by least (rows_from (path_of r) kinds) rs)
    (drawn_law by least kinds rs)

-- ---- names

-- names change the number of no strip
left_step : (by : Number) (depth : ℕ) (b : BoxModel) (bs : List BoxModel) (above same begins : Bool)
    → strip_number by (strip_left depth (map outline bs)) ≡ strip_number by (strip_left depth bs)
    → strip_number by (if above then [] else if same then (if begins then [] else outline b ∷ strip_left depth (map outline bs))
    else strip_left depth (map outline bs))
    ≡ strip_number by (if above then [] else if same then (if begins then [] else b ∷ strip_left depth bs) else strip_left depth bs)
left_step by depth b bs true same begins next = refl
left_step by depth b bs false true true next = refl
left_step by depth b bs false true false next = ap (λ (n : ℕ). number_in by b.sums + n) next
left_step by depth b bs false false begins next = next

left_same : (by : Number) (depth : ℕ) (bs : List BoxModel)
    → strip_number by (strip_left depth (map outline bs)) ≡ strip_number by (strip_left depth bs)
left_same by depth [] = refl
left_same by depth (b ∷ bs) =
    left_step by depth b bs (nat_lt b.depth depth) (b.depth == depth) b.begins_strip (left_same by depth bs)

strip_same : (by : Number) (b : BoxModel) (bs : List BoxModel)
    → strip_number by (strip_of (outline b) (map outline bs)) ≡ strip_number by (strip_of b bs)
strip_same by b bs = ap (λ (n : ℕ). number_in by b.sums + n) (left_same by b.depth bs)

first_step : (by : Number) (b : BoxModel) (bs : List BoxModel) (inside : Bool)
    → strip_number by (if inside then strip_of (outline b) (map outline bs) else [])
    ≡ strip_number by (if inside then strip_of b bs else [])
first_step by b bs true = strip_same by b bs
first_step by b bs false = refl

first_same : (by : Number) (depth : ℕ) (bs : List BoxModel)
    → strip_number by (first_strip depth (map outline bs)) ≡ strip_number by (first_strip depth bs)
first_same by depth [] = refl
first_same by depth (b ∷ bs) = first_step by b bs (nat_lt depth b.depth)

opening_nameless : (scale : Scale) (b : BoxModel) (place strip : ℕ) (rest file : Bool)
    → map nameless (opening_with scale (outline b) place strip rest file) ≡ map nameless (opening_with scale b place strip rest file)
opening_nameless scale b place strip true file = refl
opening_nameless scale b place strip false true = refl
opening_nameless scale b place strip false false = refl

box_nameless : (scale : Scale) (within : ℕ) (b : BoxModel) (bs : List BoxModel)
    → map nameless (next_box scale within (outline b) (map outline bs)) ≡ map nameless (next_box scale within b bs)
box_nameless scale within b bs =
    let closed : List Piece = closings (within - b.depth) in
    let there : Bool = b.begins_strip && nat_lt b.depth within in
    let opened = λ (a : BoxModel) (place strip : ℕ). opening_with scale a place strip b.is_rest b.is_file in
    let strip : ℕ = strip_number scale.by (first_strip b.depth bs) in
    ap₂ (λ (n : ℕ) (ps : List Piece). map nameless (closed ++ (strip_with there n ++ ps))) (strip_same scale.by b bs)
    (ap₂ (opened (outline b)) (length-map bs outline) (first_same scale.by b.depth bs))
    ∙ map-append nameless closed (strip_with there (strip_number scale.by (strip_of b bs)) ++ opened (outline b) (length bs) strip)
    ∙ ap (λ (ps : List Piece). map nameless closed ++ ps)
    (map-append nameless (strip_with there (strip_number scale.by (strip_of b bs))) (opened (outline b) (length bs) strip)
    ∙ ap (λ (ps : List Piece). map nameless (strip_with there (strip_number scale.by (strip_of b bs))) ++ ps)
    (opening_nameless scale b (length bs) strip b.is_rest b.is_file)
    ∙ sym (map-append nameless (strip_with there (strip_number scale.by (strip_of b bs))) (opened b (length bs) strip)))
    ∙ sym (map-append nameless closed (strip_with there (strip_number scale.by (strip_of b bs)) ++ opened b (length bs) strip))

boxes_nameless : (scale : Scale) (within : ℕ) (bs : List BoxModel)
    → map nameless (boxes_in scale within (map outline bs)) ≡ map nameless (boxes_in scale within bs)
boxes_nameless scale within [] = refl
boxes_nameless scale within (b ∷ bs) =
    map-append nameless (next_box scale within (outline b) (map outline bs)) _
    ∙ ap₂ (λ (ps qs : List Piece). ps ++ qs) (box_nameless scale within b bs) (boxes_nameless scale (min within b.depth + 1) bs)
    ∙ sym (map-append nameless (next_box scale within b bs) _)

pub outline_law : OutlineLaw
outline_law scale bs cs e =
    sym (boxes_nameless scale 0 bs) ∙ ap (λ (ds : List BoxModel). map nameless (boxes_in scale 0 ds)) e ∙ boxes_nameless scale 0 cs
