-- Widths of columns, one cell more at a time.
use Rattle.std.proofs.lemmas.{Grind.common_steps, List.{take_more, map-append, length-map, length-take-le, get_or_default}}
use Rattle.std.proofs.lemmas.List.{replicate-append-replicate, Concat.flat_map-append}
use Rattle.std.proofs.{Common.{◌≡◌, ℕ, zero, suc, ◌+◌, ◌<◌, ◌≤◌, max, List, [], ◌∷◌, ◌++◌, length, map, take, get_or, set, refl, sym, ap}}
use Rattle.std.proofs.{Common.{◌∙◌, ◌==◌, false, codes, arith, append_assoc, append-nil, replicate}}
use Rattle.lc_formats.specs.{Columns.{CellModel, cell_widths, gap_width, line_in, line_width, lines_in, listing_in, wider, widened}}
use Rattle.lc_formats.specs.{Columns.{widths_of, width_at}, Cells.{cell_model, cells_of}, TableText.{listing, rows_in_columns}}
use Rattle.lc_formats.specs.{declared.cells.Cell.Cell, Widening.with_width}

-- a column that there is
pub with_width-set : (ws : List ℕ) (i v : ℕ) → i < length ws → with_width ws i v ≡ set ws i (max (get_or ws i 0) v)
with_width-set [] i v h = absurd (omega arith)
with_width-set (w ∷ ws) zero v h = refl
with_width-set (w ∷ ws) (suc i) v h = ap (λ (l : List ℕ). w ∷ l) (with_width-set ws i v (omega arith))

-- a new column
pub with_width-push : (ws : List ℕ) (v : ℕ) → with_width ws (length ws) v ≡ ws ++ v ∷ []
with_width-push [] v = refl
with_width-push (w ∷ ws) v = ap (λ (l : List ℕ). w ∷ l) (with_width-push ws v)

-- a line of no cells
pub wider-nil : (ws : List ℕ) → wider ws [] ≡ ws
wider-nil [] = refl
wider-nil (w ∷ ws) = refl

-- one cell more in the line
pub wider-push : (ws vs : List ℕ) (v : ℕ) → wider ws (vs ++ v ∷ []) ≡ with_width (wider ws vs) (length vs) v
wider-push [] vs v = sym (with_width-push vs v)
wider-push (w ∷ ws) [] v = ap (λ (l : List ℕ). max w v ∷ l) (wider-nil ws)
wider-push (w ∷ ws) (x ∷ vs) v = ap (λ (l : List ℕ). max w x ∷ l) (wider-push ws vs v)

-- no column of a line is without a width
pub length-wider : (ws vs : List ℕ) → length vs ≤ length (wider ws vs)
length-wider [] vs = omega arith
length-wider (w ∷ ws) [] = omega arith
length-wider (w ∷ ws) (v ∷ vs) = let rest = length-wider ws vs in omega arith

-- first some lines and then others
pub widened-append : (ws : List ℕ) (xs ys : List (List CellModel)) → widened ws (xs ++ ys) ≡ widened (widened ws xs) ys
widened-append ws [] ys = refl
widened-append ws (x ∷ xs) ys = widened-append (wider ws (cell_widths x)) xs ys

-- a column that there is, by its own width
pub widen_column : (ws : List ℕ) (i own v most : ℕ) → i < length ws → own ≡ get_or ws i own → most ≡ max own v
    → set ws i most ≡ with_width ws i v
widen_column ws i own v most h is greater = grind (arith, common_steps, get_or_default, with_width-set)

-- a new column
pub widen_more : (ws : List ℕ) (i v : ℕ) → i ≡ length ws → ws ++ v ∷ [] ≡ with_width ws i v
widen_more ws i v last = sym (ap (λ n. with_width ws n v) last ∙ with_width-push ws v)

-- the columns that the first cells of a line have
pub length-fitted : (start : List ℕ) (cells : List Cell) (i : ℕ) → i ≤ length cells
    → i ≤ length (wider start (cell_widths (cells_of (take i cells))))
length-fitted start cells i h = grind (arith, common_steps, length-map, length-take-le, length-wider)

-- one cell of a line more
pub cell_fitted : (start now next : List ℕ) (cells : List Cell) (i width : ℕ) (d : Cell) → i < length cells
    → now ≡ wider start (cell_widths (cells_of (take i cells)))
    → width ≡ width_at (cell_model (get_or cells i d)).side (cell_model (get_or cells i d)).text
    → next ≡ with_width now i width → next ≡ wider start (cell_widths (cells_of (take (i + 1) cells)))
cell_fitted start now next cells i width d h so_far own step =
    grind (arith, common_steps, take_more, map-append, length-map, length-take-le, wider-push)

-- one line alone
pub line_alone : (ws : List ℕ) (line : List CellModel) → ws ≡ wider [] (cell_widths line)
    → line_in ws line ≡ lines_in (widths_of (line ∷ [])) (line ∷ [])
line_alone ws line fitted = grind (arith, common_steps, append-nil)

-- two lines
pub two_lines : (initial t1 t2 first ws : List ℕ) (a b : List CellModel) → first ≡ wider [] (cell_widths a)
    → ws ≡ wider first (cell_widths b) → t1 ≡ initial ++ line_in ws a → t2 ≡ t1 ++ line_in ws b
    → t2 ≡ initial ++ lines_in (widths_of (a ∷ b ∷ [])) (a ∷ b ∷ [])
two_lines initial t1 t2 first ws a b one two e1 e2 = grind (arith, common_steps, append_assoc, append-nil)

-- headings and lines below them in columns that fit them all
pub some_listed : (initial t1 t2 t3 start first ws : List ℕ) (headings : List CellModel) (lines : List (List CellModel))
    → first ≡ wider start (cell_widths headings) → ws ≡ widened first lines → t1 ≡ initial ++ line_in ws headings
    → t2 ≡ t1 ++ lines_in ws lines → t3 ≡ t2 ++ codes "\n"
    → t3 ≡ initial ++ listing_in (widened start (headings ∷ lines)) headings lines
some_listed initial t1 t2 t3 start first ws headings lines a b e1 e2 e3 = grind (arith, common_steps, append_assoc)

-- where something is listed, its lines are below the headings
pub listed_some : {A : Type 0} (headings : List CellModel) (cells : A → List CellModel) (xs : List A) → (length xs == 0) ≡ false
    → listing headings (map cells xs) ≡ listing_in (widened [] (headings ∷ map cells xs)) headings (map cells xs)
listed_some headings cells xs some = grind (arith, common_steps)

-- columns that fit headings, rows and sums
pub rows_fitted : (first second third ws : List ℕ) (headings : List CellModel) (rows others sums : List (List CellModel))
    → first ≡ wider [] (cell_widths headings) → second ≡ widened first rows → third ≡ widened second others → ws ≡ widened third sums
    → ws ≡ widths_of (headings ∷ ((rows ++ others) ++ sums))
rows_fitted first second third ws headings rows others sums a b c d = grind (arith, common_steps, widened-append)

-- headings, rows and sums with a rule between them
pub rows_written : (initial t1 t2 t3 t4 t5 t6 ws rule : List ℕ) (headings : List CellModel) (rows others sums : List (List CellModel))
    → t1 ≡ initial ++ line_in ws headings → t2 ≡ t1 ++ rule → t3 ≡ t2 ++ lines_in ws rows → t4 ≡ t3 ++ lines_in ws others
    → t5 ≡ t4 ++ rule → t6 ≡ t5 ++ lines_in ws sums → t6 ≡ initial ++ rows_in_columns ws rule headings (rows ++ others) sums
rows_written initial t1 t2 t3 t4 t5 t6 ws rule headings rows others sums e1 e2 e3 e4 e5 e6 =
    rw (e6, e5, e4, e3, e2, e1, flat_map-append (line_in ws) rows others) (simp append_assoc)

-- ---- rules

-- one column more, and the gap before others
pub rule_pushed : (initial t1 t2 t3 ws others : List ℕ) (w all : ℕ) → t1 ++ replicate (line_width ws) 45 ≡ initial ++ replicate all 45
    → ws ≡ w ∷ others → t2 ≡ t1 ++ replicate w 45 → t3 ≡ t2 ++ replicate (gap_width others) 45
    → t3 ++ replicate (line_width others) 45 ≡ initial ++ replicate all 45
rule_pushed initial t1 t2 t3 ws others w all so_far is e2 e3 = grind (arith, common_steps, replicate-append-replicate, append_assoc)
