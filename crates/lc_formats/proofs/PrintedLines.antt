-- What is printed of a line: its cells up to the last that is shown.
use Rattle.std.proofs.{lemmas.Grind.common_steps, Common.{◌≡◌, ℕ, suc, ◌+◌, ◌≤◌, Bool, true, false, not, if◌then◌else◌, List, [], ◌∷◌}}
use Rattle.std.proofs.{Common.{◌++◌, length, codes, slice_index, refl, ap, ◌∙◌, arith, append_assoc, append-nil}}
use Rattle.lc_formats.specs.{Blanks.{ends_in_blank, padded_from, padded_line, without_blanks}, Columns.{CellModel, before_shown}}
use Rattle.lc_formats.specs.{Columns.{cells_from, gap, is_shown, line_in, shown_cells, text_at, text_before}, Layouts.{has_no_end, is_open}}
use Rattle.lc_sheet.specs.{declared.column.Side.{Side, TheVariants.{Left, Right, End}}}
use Rattle.lc_formats.proofs.{BlankEnds.{blank_spaces, drop_end, ends-append, is_none, keep_end, some_after, without_none}, EvenLines.Fit}
use Rattle.lc_formats.proofs.{EvenLines.{front, front_at, is_layout, sides}}

-- ---- a line of cells in columns

pub no_end_rest : (s : Side) (ss : List Side) → has_no_end (s ∷ ss) ≡ true → has_no_end ss ≡ true
no_end_rest s ss e = grind (arith, common_steps)

-- what is printed of these cells
abbrev printed : List ℕ → List CellModel → List ℕ
printed [] cells = []
printed (w ∷ ws) [] = []
printed (w ∷ ws) (c ∷ cs) = text_before cs c.side w c.text ++ (gap cs ++ printed ws cs)

printed-nil : (ws : List ℕ) → printed ws [] ≡ []
printed-nil [] = refl
printed-nil (w ∷ ws) = refl

later_cells : (i j w : ℕ) (ws : List ℕ) (cells : List CellModel) → j ≡ suc i → cells_from j (w ∷ ws) cells ≡ cells_from i ws cells
later_cells i j w ws [] next = refl
later_cells i j w ws (c ∷ cs) next = grind (arith, common_steps, later_cells (i + 1) (j + 1) w ws cs (omega arith))

in_turn : (a b c d : List ℕ) → a ++ (b ++ (c ++ d)) ≡ (a ++ (b ++ c)) ++ d
in_turn a b c d = simp append_assoc

cells_printed : (ws : List ℕ) (cells : List CellModel) → length cells ≤ length ws → cells_from 0 ws cells ≡ printed ws cells ++ codes "\n"
cells_printed [] [] h = refl
cells_printed [] (c ∷ cs) h = absurd (omega arith)
cells_printed (w ∷ ws) [] h = refl
cells_printed (w ∷ ws) (c ∷ cs) h = grind (arith, common_steps, later_cells, in_turn, cells_printed ws cs (omega arith))

length_alone : (b : Bool) (c : CellModel) → length (if b then c ∷ [] else []) ≤ 1
length_alone b c = grind (arith, common_steps)

length_before : (c : CellModel) (cs : List CellModel) → length (before_shown c cs) ≤ 1 + length cs
length_before c cs = grind (arith, common_steps, length_alone)

length_shown : (cells : List CellModel) → length (shown_cells cells) ≤ length cells
length_shown [] = omega arith
length_shown (c ∷ cs) = let own = length_before c (shown_cells cs) in let rest = length_shown cs in omega arith

fit_length : (ws : List ℕ) (cells : List CellModel) → Fit ws cells → length cells ≡ length ws
fit_length [] [] fits = refl
fit_length [] (c ∷ cs) fits = absurd fits
fit_length (w ∷ ws) [] fits = absurd fits
fit_length (w ∷ ws) (c ∷ cs) fits = ap suc (fit_length ws cs fits.1)

-- ---- without blanks

-- a cell after which nothing is shown ends in no blank
abbrev pub EndsBare : List CellModel → Type 0
EndsBare [] = Unit {0}
EndsBare (c ∷ cs) = (shown_cells cs ≡ [] → ends_in_blank c.text ≡ false) × EndsBare cs

-- blanks follow the last text
last_text : (s : Side) (w : ℕ) (t rest : List ℕ) (ss : List Side) → has_no_end (s ∷ ss) ≡ true → ends_in_blank t ≡ false
    → without_blanks rest ≡ [] → without_blanks (front_at s w t ++ rest) ≡ (if is_shown s t then text_before [] s w t else [])
last_text s w t rest ss closed bare none = grind (arith, common_steps, drop_end, blank_spaces, without_none, append-nil, ends-append)

last_some : (s : Side) (w : ℕ) (t : List ℕ) (ss : List Side) → has_no_end (s ∷ ss) ≡ true
    → is_none (if is_shown s t then text_before [] s w t else []) ≡ not (is_shown s t)
last_some s w t ss closed = grind (arith, common_steps, some_after)

printed_last : (b : Bool) (c : CellModel) (w : ℕ) (ws : List ℕ)
    → printed (w ∷ ws) (if b then c ∷ [] else []) ≡ (if b then text_before [] c.side w c.text else [])
printed_last b c w ws = grind (arith, common_steps, printed-nil, append-nil)

none_alone : (b : Bool) (c : CellModel) → is_none (if b then c ∷ [] else []) ≡ not b
none_alone b c = grind (arith, common_steps)

blank_gap : (cs : List CellModel) (rest : List ℕ) → without_blanks rest ≡ [] → without_blanks (gap cs ++ rest) ≡ []
blank_gap cs rest none = grind (arith, common_steps)

kept_after : (a b p : List ℕ) → without_blanks b ≡ p → is_none p ≡ false → without_blanks (a ++ (codes "  " ++ b)) ≡ a ++ (codes "  " ++ p)
kept_after a b p is some = grind (arith, common_steps, keep_end)

text_kept : (s : Side) (w : ℕ) (t : List ℕ) (d : CellModel) (ds : List CellModel) (ss : List Side) → has_no_end (s ∷ ss) ≡ true
    → front_at s w t ≡ text_before (d ∷ ds) s w t
text_kept s w t d ds ss closed = grind (arith, common_steps)

-- the padded cells without their last blanks are what is printed, and something is printed where a cell is shown
abbrev IsPrinted : List ℕ → List CellModel → List ℕ → Type 0
IsPrinted ws shown padded = (without_blanks padded ≡ printed ws shown) × (is_none shown ≡ is_none (printed ws shown))

cell_printed : (c : CellModel) (w : ℕ) (ws : List ℕ) (cs later : List CellModel) → shown_cells cs ≡ later
    → has_no_end (c.side ∷ sides cs) ≡ true → (shown_cells cs ≡ [] → ends_in_blank c.text ≡ false) → IsPrinted ws later (front ws cs)
    → IsPrinted (w ∷ ws) (before_shown c later) (front_at c.side w c.text ++ (gap cs ++ front ws cs))
cell_printed c w ws cs [] is closed bare rest =
    grind (arith, common_steps, blank_gap, printed-nil, printed_last, last_text, none_alone, last_some, kept_after, text_kept, some_after)
cell_printed c w ws [] (d ∷ ds) is closed bare rest = absurd (cc)
cell_printed c w ws (e ∷ es) (d ∷ ds) is closed bare rest =
    grind (arith, common_steps, blank_gap, printed-nil, printed_last, last_text, none_alone, last_some, kept_after, text_kept, some_after)

all_printed : (ws : List ℕ) (cells : List CellModel) → Fit ws cells → has_no_end (sides cells) ≡ true → EndsBare cells
    → IsPrinted ws (shown_cells cells) (front ws cells)
all_printed [] [] fits closed bare = (refl, refl)
all_printed [] (c ∷ cs) fits closed bare = absurd fits
all_printed (w ∷ ws) [] fits closed bare = (refl, refl)
all_printed (w ∷ ws) (c ∷ cs) fits closed bare =
    cell_printed c w ws cs (shown_cells cs) refl closed bare.0 (all_printed ws cs fits.1 (no_end_rest c.side (sides cs) closed) bare.1)

-- a line of cells in columns is the padded line without the blanks at its end
pub line_printed : (ws : List ℕ) (cells : List CellModel) → Fit ws cells → has_no_end (sides cells) ≡ true → EndsBare cells
    → line_in ws cells ≡ without_blanks (front ws cells) ++ codes "\n"
line_printed ws cells fits closed bare = grind (arith, common_steps, length_shown, fit_length, cells_printed, all_printed)

-- ---- a line with an open end

-- which is the last cell
pub layout_open : (ss : List Side) → is_open ss ≡ true → is_layout ss ≡ true
layout_open [] e = refl
layout_open (Left ∷ ss) e = layout_open ss e
layout_open (Right ∷ ss) e = layout_open ss e
layout_open (End ∷ []) e = refl
layout_open (End ∷ s ∷ ss) e = absurd (cc)

open_rest : (s t : Side) (ss : List Side) → is_open (s ∷ t ∷ ss) ≡ true → is_open (t ∷ ss) ≡ true
open_rest s t ss e = grind (arith, common_steps)

open_shown : (s : Side) (t : List ℕ) → is_open (s ∷ []) ≡ true → is_shown s t ≡ true
open_shown s t e = grind (arith, common_steps)

open_text : (s : Side) (w : ℕ) (t : List ℕ) → is_open (s ∷ []) ≡ true → text_before [] s w t ≡ text_at s w t
open_text s w t e = grind (arith, common_steps)

text_padded : (s : Side) (w : ℕ) (t : List ℕ) (d : CellModel) (ds : List CellModel) → text_before (d ∷ ds) s w t ≡ text_at s w t
text_padded s w t d ds = grind (arith, common_steps)

shown_open : (cells : List CellModel) → is_open (sides cells) ≡ true → shown_cells cells ≡ cells
shown_open [] e = refl
shown_open (c ∷ []) e = ap (λ b. if b then c ∷ [] else []) (open_shown c.side c.text e)
shown_open (c ∷ d ∷ ds) e = ap (before_shown c) (shown_open (d ∷ ds) (open_rest c.side d.side (sides ds) e))

padded_open : (i : ℕ) (ws : List ℕ) (cells : List CellModel) → is_open (sides cells) ≡ true → cells_from i ws cells ≡ padded_from i ws cells
padded_open i ws [] e = refl
padded_open i ws (c ∷ []) e = ap (λ l. l ++ codes "\n") (open_text c.side (slice_index ws i) c.text e)
padded_open i ws (c ∷ d ∷ ds) e =
    grind (arith, common_steps, open_text, text_padded, open_rest, padded_open (i + 1) ws (d ∷ ds) (open_rest c.side d.side (sides ds) e))

-- a line with an open end is padded
pub line_open : (ws : List ℕ) (cells : List CellModel) → is_open (sides cells) ≡ true → line_in ws cells ≡ padded_line ws cells
line_open ws cells e = ap (cells_from 0 ws) (shown_open cells e) ∙ padded_open 0 ws cells e
