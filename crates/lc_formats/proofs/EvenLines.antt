-- Lines of cells in columns that fit them have one width, up to an open end.
use Rattle.std.proofs.{lemmas.{Grind.common_steps, List.{Elements.{All-cons, All-head, All-nil, All-tail}, length-map}}}
use Rattle.std.proofs.{lemmas.Str.{IsUtf8-append, IsUtf8-nil}, Common.{◌≡◌, ℕ, suc, ◌+◌, ◌-◌, ◌≤◌, Bool, true, false, List, [], ◌∷◌, ◌++◌}}
use Rattle.std.proofs.{Common.{length, map, codes, refl, sym, ◌∙◌, arith, append_assoc, append-nil}}
use Rattle.std.specs.{List.{All, AllZip}, Str.IsUtf8}
use Rattle.lc_formats.specs.{Blanks.{padded_from, padded_line}, Columns.{CellModel, cell_widths, gap, spaces, text_at, width_at, width_of}}
use Rattle.lc_formats.specs.{Columns.{wider, widened, widths_of}}
use Rattle.lc_sheet.specs.{declared.column.Side.{Side, TheVariants.{Left, Right, End}}}
use Rattle.lc_formats.proofs.{OneLine.{is_one_line, one_line-append}, Spacing.{width_of-space, width_of-after, width_of-before}}
use Rattle.lc_formats.proofs.{Spacing.{width_of-next, width_of-nil, utf8_spaces, one_line_spaces}}

abbrev pub sides : List CellModel → List Side
sides cells = map (λ c. c.side) cells

-- a cell's text is in one line, and UTF-8 where its width counts
abbrev pub IsSound : Side → List ℕ → Type 0
IsSound Left t = (is_one_line t ≡ true) × IsUtf8 t
IsSound Right t = (is_one_line t ≡ true) × IsUtf8 t
IsSound End t = is_one_line t ≡ true

abbrev pub AreSound : List CellModel → Type 0
AreSound [] = Unit {0}
AreSound (c ∷ cs) = IsSound c.side c.text × AreSound cs

-- an open end is the last cell
abbrev pub is_layout : List Side → Bool
is_layout [] = true
is_layout (Left ∷ ss) = is_layout ss
is_layout (Right ∷ ss) = is_layout ss
is_layout (End ∷ []) = true
is_layout (End ∷ s ∷ ss) = false

abbrev pub Fit : List ℕ → List CellModel → Type 0
Fit ws cells = AllZip (λ w c. width_at c.side c.text ≤ w) ws cells

-- what is in columns, and the open end
abbrev pub front_at : Side → ℕ → List ℕ → List ℕ
front_at Left w t = text_at Left w t
front_at Right w t = text_at Right w t
front_at End w t = []

abbrev pub end_at : Side → List ℕ → List ℕ
end_at Left t = []
end_at Right t = []
end_at End t = t

abbrev pub front : List ℕ → List CellModel → List ℕ
front [] cells = []
front (w ∷ ws) [] = []
front (w ∷ ws) (c ∷ cs) = front_at c.side w c.text ++ (gap cs ++ front ws cs)

abbrev pub end_of : List CellModel → List ℕ
end_of [] = []
end_of (c ∷ cs) = end_at c.side c.text ++ end_of cs

-- how wide what is in columns is
abbrev pub side_width : Side → ℕ → ℕ
side_width Left w = w
side_width Right w = w
side_width End w = 0

abbrev gap_width : List Side → ℕ
gap_width [] = 0
gap_width (s ∷ ss) = 2

abbrev pub span : List Side → List ℕ → ℕ
span [] ws = 0
span (s ∷ ss) [] = 0
span (s ∷ ss) (w ∷ ws) = side_width s w + (gap_width ss + span ss ws)

later_columns : (i j w : ℕ) (ws : List ℕ) (cells : List CellModel) → j ≡ suc i → padded_from j (w ∷ ws) cells ≡ padded_from i ws cells
later_columns i j w ws [] next = refl
later_columns i j w ws (c ∷ cs) next = grind (arith, common_steps, later_columns (i + 1) (j + 1) w ws cs (omega arith))

parted : (s : Side) (w : ℕ) (t : List ℕ) (ws : List ℕ) (cs : List CellModel) (rest : List ℕ) → is_layout (s ∷ sides cs) ≡ true
    → rest ≡ front ws cs ++ (end_of cs ++ codes "\n") → Fit ws cs
    → text_at s w t ++ (gap cs ++ rest) ≡ (front_at s w t ++ (gap cs ++ front ws cs)) ++ ((end_at s t ++ end_of cs) ++ codes "\n")
parted Left w t ws cs rest layout is fits = rw is (simp append_assoc)
parted Right w t ws cs rest layout is fits = rw is (simp append_assoc)
parted End w t [] [] rest layout is fits = rw is (simp append-nil)
parted End w t (v ∷ vs) [] rest layout is fits = absurd fits
parted End w t ws (c ∷ cs) rest layout is fits = absurd (cc)

layout_rest : (s : Side) (ss : List Side) → is_layout (s ∷ ss) ≡ true → is_layout ss ≡ true
layout_rest s ss e = grind (arith, common_steps)

-- a padded line is what is in columns, its open end and a line feed
pub line_parted : (ws : List ℕ) (cells : List CellModel) → Fit ws cells → is_layout (sides cells) ≡ true
    → padded_line ws cells ≡ front ws cells ++ (end_of cells ++ codes "\n")
line_parted [] [] fits layout = refl
line_parted [] (c ∷ cs) fits layout = absurd fits
line_parted (w ∷ ws) [] fits layout = refl
line_parted (w ∷ ws) (c ∷ cs) fits layout =
    grind (arith, common_steps, parted, later_columns, layout_rest, line_parted ws cs fits.1 (layout_rest c.side (sides cs) layout))

-- ---- how wide what is in columns is

width_at_side : (s : Side) (w : ℕ) (t : List ℕ) → IsSound s t → width_at s t ≤ w → width_of (front_at s w t) ≡ side_width s w
width_at_side s w t sound fits = grind (arith, common_steps, width_of-after, width_of-before, width_of-nil)

utf8_front_at : (s : Side) (w : ℕ) (t : List ℕ) → IsSound s t → IsUtf8 (front_at s w t)
utf8_front_at Left w t sound = IsUtf8-append t (spaces (w - width_of t)) sound.1 (utf8_spaces (w - width_of t))
utf8_front_at Right w t sound = IsUtf8-append (spaces (w - width_of t)) t (utf8_spaces (w - width_of t)) sound.1
utf8_front_at End w t sound = IsUtf8-nil

-- all cells but the last take their columns' widths and the gaps between them
pub width_of-front : (ws : List ℕ) (cells : List CellModel) → Fit ws cells → AreSound cells
    → width_of (front ws cells) ≡ span (sides cells) ws
width_of-front [] [] fits sound = width_of-nil
width_of-front [] (c ∷ cs) fits sound = absurd fits
width_of-front (w ∷ ws) [] fits sound = width_of-nil
width_of-front (w ∷ []) (c ∷ []) fits sound =
    grind (arith, common_steps, width_of-nil, append-nil, width_at_side, width_of-space, utf8_front_at, width_of-next)
width_of-front (w ∷ v ∷ vs) (c ∷ []) fits sound = absurd fits.1
width_of-front (w ∷ ws) (c ∷ d ∷ ds) fits sound =
    grind (arith, common_steps, width_at_side, width_of-space, utf8_front_at, width_of-next, width_of-front ws (d ∷ ds) fits.1 sound.1)

one_line_front_at : (s : Side) (w : ℕ) (t : List ℕ) → IsSound s t → is_one_line (front_at s w t) ≡ true
one_line_front_at s w t sound = grind (arith, common_steps, one_line-append, one_line_spaces)

one_line_gap : (cells : List CellModel) → is_one_line (gap cells) ≡ true
one_line_gap cells = grind (arith, common_steps)

-- they are on one line
pub one_line_front : (ws : List ℕ) (cells : List CellModel) → AreSound cells → is_one_line (front ws cells) ≡ true
one_line_front [] cells sound = refl
one_line_front (w ∷ ws) [] sound = refl
one_line_front (w ∷ ws) (c ∷ cs) sound =
    grind (arith, common_steps, one_line-append, one_line_front_at, one_line_gap, one_line_front ws cs sound.1)

one_line_end_at : (s : Side) (t : List ℕ) → IsSound s t → is_one_line (end_at s t) ≡ true
one_line_end_at s t sound = grind (arith, common_steps)

-- and so does the last cell
pub one_line_end : (cells : List CellModel) → AreSound cells → is_one_line (end_of cells) ≡ true
one_line_end [] sound = refl
one_line_end (c ∷ cs) sound = grind (arith, common_steps, one_line-append, one_line_end_at, one_line_end cs sound.1)

-- ---- the widths of columns fit each line

fit_own : (cells : List CellModel) → Fit (cell_widths cells) cells
fit_own [] = tt
fit_own (c ∷ cs) = (omega arith, fit_own cs)

fit_wider : (ws vs : List ℕ) (cells : List CellModel) → Fit ws cells → length vs ≡ length cells → Fit (wider ws vs) cells
fit_wider [] [] cells fits same = fits
fit_wider [] (v ∷ vs) [] fits same = absurd (omega arith)
fit_wider [] (v ∷ vs) (c ∷ cs) fits same = absurd fits
fit_wider (w ∷ ws) [] cells fits same = fits
fit_wider (w ∷ ws) (v ∷ vs) [] fits same = absurd fits
fit_wider (w ∷ ws) (v ∷ vs) (c ∷ cs) fits same = (omega (arith, fits.0), fit_wider ws vs cs fits.1 (omega arith))

fit_wider_own : (ws : List ℕ) (cells : List CellModel) → length ws ≡ length cells → Fit (wider ws (cell_widths cells)) cells
fit_wider_own [] [] same = tt
fit_wider_own [] (c ∷ cs) same = absurd (omega arith)
fit_wider_own (w ∷ ws) [] same = absurd (omega arith)
fit_wider_own (w ∷ ws) (c ∷ cs) same = (omega arith, fit_wider_own ws cs (omega arith))

length_wider_same : (ws vs : List ℕ) → length ws ≡ length vs → length (wider ws vs) ≡ length ws
length_wider_same [] [] same = refl
length_wider_same [] (v ∷ vs) same = absurd (omega arith)
length_wider_same (w ∷ ws) [] same = refl
length_wider_same (w ∷ ws) (v ∷ vs) same = let rest = length_wider_same ws vs (omega arith) in omega arith

length_cells : (cells : List CellModel) → length (cell_widths cells) ≡ length cells
length_cells cells = length-map cells (λ (c : CellModel). width_at c.side c.text)

fit_widened : (n : ℕ) (lines : List (List CellModel)) (ws : List ℕ) (cells : List CellModel) → Fit ws cells → length cells ≡ n
    → All (λ l. length l ≡ n) lines → Fit (widened ws lines) cells
fit_widened n [] ws cells fits long all = fits
fit_widened n (l ∷ ls) ws cells fits long all =
    let P : List CellModel → Type 0 = λ x. length x ≡ n in
    fit_widened n ls (wider ws (cell_widths l)) cells
    (fit_wider ws (cell_widths l) cells fits (length_cells l ∙ All-head P l ls all ∙ sym long)) long (All-tail P l ls all)

fit_each : (n : ℕ) (lines : List (List CellModel)) (ws : List ℕ) → length ws ≡ n → All (λ l. length l ≡ n) lines
    → All (Fit (widened ws lines)) lines × (length (widened ws lines) ≡ n)
fit_each n [] ws long all = (All-nil (Fit ws), long)
fit_each n (l ∷ ls) ws long all =
    let P : List CellModel → Type 0 = λ x. length x ≡ n in
    let same = All-head P l ls all in
    let later = All-tail P l ls all in
    let next = wider ws (cell_widths l) in
    let longer : length next ≡ n = length_wider_same ws (cell_widths l) (omega (arith, length_cells l)) ∙ long in
    let rest = fit_each n ls next longer later in (
      All-cons (Fit (widened next ls)) l ls (fit_widened n ls next l (fit_wider_own ws l (omega arith)) same later) rest.0,
      rest.1,
    )

-- the columns of lines that have as many cells fit each of them
pub widths_fit : (n : ℕ) (l : List CellModel) (ls : List (List CellModel)) → All (λ l. length l ≡ n) (l ∷ ls)
    → All (Fit (widths_of (l ∷ ls))) (l ∷ ls) × (length (widths_of (l ∷ ls)) ≡ n)
widths_fit n l ls all =
    let P : List CellModel → Type 0 = λ x. length x ≡ n in
    let same = All-head P l ls all in
    let later = All-tail P l ls all in
    let ws = cell_widths l in
    let rest = fit_each n ls ws (length_cells l ∙ same) later in
    (All-cons (Fit (widened ws ls)) l ls (fit_widened n ls ws l (fit_own l) same later) rest.0, rest.1)
