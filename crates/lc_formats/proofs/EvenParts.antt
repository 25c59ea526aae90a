-- The lines of a part of a table: lines of cells that are alike, and lines of hyphens.
use Rattle.std.proofs.lemmas.Grind.{common_steps}
use Rattle.std.proofs.Common.{◌≡◌, ◌≤◌, ℕ, ◌-◌, ◌==◌, Bool, true, false, if◌then◌else◌, List, [], ◌∷◌, ◌++◌, length, map, take, codes}
use Rattle.std.proofs.Common.{replicate, refl, sym, ap, ◌∙◌, arith}
use Rattle.std.proofs.{Common.{append_assoc, append-nil, ap₂, subst, suc, zero}, lemmas.List.{length-map, map-append}}
use Rattle.std.proofs.lemmas.List.Elements.{All-append, All-cons, All-head, All-nil, All-same, All-tail, All-weaker}
use Rattle.std.specs.List.{All, AllZip}
use Rattle.lc_text.specs.Lines.{input_lines_of}
use Rattle.lc_formats.specs.{Blanks.{ends_in_blank, padded_line, padded_lines, without_blanks}, Columns.{CellModel, line_in, lines_in}}
use Rattle.lc_formats.specs.{BarCells.{but_last, ruled}, Columns.{gap_width, line_width, rule_in, spaces, widths_of, width_of}}
use Rattle.lc_formats.specs.{Layouts.{has_no_end, is_open}, PaddedText.padded_rule, TableText.listing}
use Rattle.lc_formats.specs.WidthLaws.{AreEven, HasEnd, IsAlignedListing}
use Rattle.lc_sheet.specs.declared.column.Side.{Side, TheVariants.{Left, Right, End}}
use Rattle.lc_formats.proofs.{BlankEnds.{blank_spaces, drop_end, ends-append, ends_without, one_line_without, without_none}}
use Rattle.lc_formats.proofs.EvenLines.{AreSound, Fit, end_at}
use Rattle.lc_formats.proofs.EvenLines.{end_of, front, is_layout, line_parted, one_line_end, one_line_front, side_width, sides, span}
use Rattle.lc_formats.proofs.{EvenLines.{width_of-front, widths_fit}, LinesApart.{IsLined, lined-append, lined-one, input_lines_of-lined}}
use Rattle.lc_formats.proofs.{OneLine.{is_one_line, one_line-append}, PrintedLines.{EndsBare, layout_open, line_open, line_printed}}
use Rattle.lc_formats.proofs.Spacing.{one_line_hyphens, one_line_spaces, utf8_hyphens, width_of-after, width_of-hyphens}

-- a line whose cells are at these sides
abbrev pub IsLike : List Side → List CellModel → Type 0
IsLike ss l = (sides l ≡ ss) × AreSound l

-- a padded line without its line feed
abbrev pub shown : List ℕ → List CellModel → List ℕ
shown ws l = front ws l ++ end_of l

lined_line : (ws : List ℕ) (l : List CellModel) → Fit ws l → is_layout (sides l) ≡ true → AreSound l
    → IsLined (shown ws l ∷ []) (padded_line ws l)
lined_line ws l h1 h2 h3 =
    grind (arith, common_steps, lined-one, one_line-append, front, end_of, one_line_front, one_line_end, line_parted, append_assoc)

-- the padded lines of lines that are alike, in columns that fit them
lined_lines : (ss : List Side) (ws : List ℕ) (ls : List (List CellModel)) → is_layout ss ≡ true → All (Fit ws) ls → All (IsLike ss) ls
    → IsLined (map (shown ws) ls) (padded_lines ws ls)
lined_lines ss ws [] layout fits like = record { text_is = refl; each = All-nil (λ l. is_one_line l ≡ true) }
lined_lines ss ws (l ∷ ls) layout fits like =
    let here = All-head (IsLike ss) l ls like in
    lined-append (shown ws l ∷ []) (map (shown ws) ls) (padded_line ws l) (padded_lines ws ls)
    (lined_line ws l (All-head (Fit ws) l ls fits) (ap is_layout here.0 ∙ layout) here.1)
    (lined_lines ss ws ls layout (All-tail (Fit ws) l ls fits) (All-tail (IsLike ss) l ls like))

-- with an open end, they are what is printed
lines_open : (ss : List Side) (ws : List ℕ) (ls : List (List CellModel)) → is_open ss ≡ true → All (IsLike ss) ls
    → padded_lines ws ls ≡ lines_in ws ls
lines_open ss ws [] layout like = refl
lines_open ss ws (l ∷ ls) layout like =
    ap₂ (λ (a b : List ℕ). a ++ b) (sym (line_open ws l (ap is_open (All-head (IsLike ss) l ls like).0 ∙ layout)))
    (lines_open ss ws ls layout (All-tail (IsLike ss) l ls like))

width_of-like : (ss : List Side) (ws : List ℕ) (l : List CellModel) → Fit ws l → IsLike ss l → width_of (front ws l) ≡ span ss ws
width_of-like ss ws l fits like = width_of-front ws l fits like.1 ∙ ap (λ s. span s ws) like.0

-- ---- lines without an open end

-- sides of which none ends a line are a layout
pub layout_from : (ss : List Side) → has_no_end ss ≡ true → is_layout ss ≡ true
layout_from [] e = refl
layout_from (Left ∷ ss) e = layout_from ss e
layout_from (Right ∷ ss) e = layout_from ss e
layout_from (End ∷ ss) e = absurd (cc)

column_width : (s : Side) (ss : List Side) (w : ℕ) → has_no_end (s ∷ ss) ≡ true → (side_width s w ≡ w) × (has_no_end ss ≡ true)
column_width s ss w h1 = grind (arith, common_steps)

no_end_at : (s : Side) (t rest : List ℕ) (ss : List Side) → has_no_end (s ∷ ss) ≡ true → rest ≡ [] → end_at s t ++ rest ≡ []
no_end_at s t rest ss h1 h2 = grind (arith, common_steps)

no_end : (cells : List CellModel) → has_no_end (sides cells) ≡ true → end_of cells ≡ []
no_end [] closed = refl
no_end (c ∷ cs) closed =
    no_end_at c.side c.text (end_of cs) (sides cs) closed (no_end cs (column_width c.side (sides cs) 0 closed).1)

padded_is : (ws : List ℕ) (l : List CellModel) → has_no_end (sides l) ≡ true → shown ws l ≡ front ws l
padded_is ws l closed = ap (λ e. front ws l ++ e) (no_end l closed) ∙ append-nil (front ws l)

printed_line : (ws : List ℕ) (l : List CellModel) → Fit ws l → has_no_end (sides l) ≡ true → AreSound l → EndsBare l
    → IsLined (without_blanks (shown ws l) ∷ []) (line_in ws l)
printed_line ws l h1 h2 h3 h4 =
    grind (
      arith,
      common_steps,
      lined-one,
      one_line_without,
      one_line-append,
      front,
      end_of,
      one_line_front,
      one_line_end,
      line_printed,
      padded_is,
    )

-- lines are as wide as their columns and the gaps between these
span_is : (ss : List Side) (ws : List ℕ) → has_no_end ss ≡ true → length ws ≡ length ss → span ss ws ≡ line_width ws
span_is [] [] closed long = refl
span_is [] (w ∷ ws) closed long = absurd (omega arith)
span_is (s ∷ ss) [] closed long = absurd (omega arith)
span_is (s ∷ []) (w ∷ []) closed long = let own = (column_width s [] w closed).0 in omega (arith, own)
span_is (s ∷ []) (w ∷ v ∷ vs) closed long = absurd (omega arith)
span_is (s ∷ t ∷ ts) (w ∷ []) closed long = absurd (omega arith)
span_is (s ∷ t ∷ ts) (w ∷ v ∷ vs) closed long =
    let column = column_width s (t ∷ ts) w closed in
    let rest = span_is (t ∷ ts) (v ∷ vs) column.1 (omega arith) in omega (arith, column.0, rest)

gap_fewer : (n : ℕ) (ws : List ℕ) → gap_width (take n ws) ≤ gap_width ws
gap_fewer n ws = grind (arith, common_steps)

-- the first columns are no wider than all of them
width_fewer : (n : ℕ) (ws : List ℕ) → line_width (take n ws) ≤ line_width ws
width_fewer zero ws = omega arith
width_fewer (suc n) [] = omega arith
width_fewer (suc n) (w ∷ ws) = let gap = gap_fewer n ws in let rest = width_fewer n ws in omega arith

-- a rule is no wider than the lines
rule_within : (k : ℕ) (ws : List ℕ) → line_width (ruled k ws) ≤ line_width ws
rule_within k ws = at (k == 0)
  where
    at : (b : Bool) → line_width (if b then but_last ws else ws) ≤ line_width ws
    at true = width_fewer (length ws - 1) ws
    at false = omega arith

-- ---- texts whose lines are even with their blanks, and printed without them

pub record IsEven (n : ℕ) (lines : List (List ℕ)) (padded text : List ℕ) : Type 0 where
  pub with_blanks : IsLined lines padded
  pub printed : IsLined (map without_blanks lines) text
  pub wide : All (λ line. width_of line ≡ n) lines

-- one after the other
pub even-append : (n : ℕ) (xs ys : List (List ℕ)) (a b s t : List ℕ) → IsEven n xs a s → IsEven n ys b t
    → IsEven n (xs ++ ys) (a ++ b) (s ++ t)
even-append n xs ys a b s t h1 h2 = grind (arith, common_steps, lined-append, map-append)

-- a line whose cells are at these sides, and which shows no blank at its end
abbrev pub IsRow : List Side → List CellModel → Type 0
IsRow ss l = IsLike ss l × EndsBare l

-- a line of a layout without an open end
pub even_line : (ss : List Side) (ws : List ℕ) (l : List CellModel) → has_no_end ss ≡ true → Fit ws l → IsRow ss l
    → IsEven (span ss ws) (shown ws l ∷ []) (padded_line ws l) (line_in ws l)
even_line ss ws l closed fits is =
    let W : List ℕ → Type 0 = λ line. width_of line ≡ span ss ws in
    let like = is.0 in
    let own = ap has_no_end like.0 ∙ closed in record {
      with_blanks = lined_line ws l fits (ap is_layout like.0 ∙ layout_from ss closed) like.1;
      printed = printed_line ws l fits own like.1 is.1;
      wide = All-cons W (shown ws l) [] (ap width_of (padded_is ws l own) ∙ width_of-like ss ws l fits like) (All-nil W);
    }

-- the lines of such a layout
pub even_lines : (ss : List Side) (ws : List ℕ) (ls : List (List CellModel)) → has_no_end ss ≡ true → All (Fit ws) ls → All (IsRow ss) ls
    → IsEven (span ss ws) (map (shown ws) ls) (padded_lines ws ls) (lines_in ws ls)
even_lines ss ws [] closed fits are =
    let none : IsLined [] [] = record { text_is = refl; each = All-nil (λ l. is_one_line l ≡ true) } in
    record { with_blanks = none; printed = none; wide = All-nil (λ line. width_of line ≡ span ss ws) }
even_lines ss ws (l ∷ ls) closed fits are =
    even-append (span ss ws) (shown ws l ∷ []) (map (shown ws) ls) (padded_line ws l) (padded_lines ws ls) (line_in ws l) (lines_in ws ls)
    (even_line ss ws l closed (All-head (Fit ws) l ls fits) (All-head (IsRow ss) l ls are))
    (even_lines ss ws ls closed (All-tail (Fit ws) l ls fits) (All-tail (IsRow ss) l ls are))

ends_hyphens : (n : ℕ) → ends_in_blank (replicate n 45) ≡ false
ends_hyphens zero = refl
ends_hyphens (suc zero) = refl
ends_hyphens (suc (suc n)) = ends_hyphens (suc n)

-- a rule, and the blanks of the column below which it is not drawn
abbrev pub rule_line : ℕ → List ℕ → List ℕ
rule_line k ws = replicate (line_width (ruled k ws)) 45 ++ spaces (line_width ws - line_width (ruled k ws))

pub even_rule : (k : ℕ) (ss : List Side) (ws : List ℕ) → has_no_end ss ≡ true → length ws ≡ length ss
    → IsEven (span ss ws) (rule_line k ws ∷ []) (padded_rule k ws) (rule_in (ruled k ws))
even_rule k ss ws closed long =
    let n = line_width (ruled k ws) in
    let hyphens = replicate n 45 in
    let blanks = spaces (line_width ws - n) in
    let one = lined-one (rule_line k ws) (one_line-append hyphens blanks (one_line_hyphens n) (one_line_spaces (line_width ws - n))) in
    let bare = drop_end hyphens blanks (blank_spaces (line_width ws - n)) ∙ without_none hyphens (ends_hyphens n) in
    let wide = width_of-after hyphens (line_width ws - n) (utf8_hyphens n)
    ∙ omega (arith, width_of-hyphens n, rule_within k ws, span_is ss ws closed long) in record {
      with_blanks = record { text_is = sym (append_assoc hyphens blanks (codes "\n")) ∙ one.text_is; each = one.each };
      printed = subst (λ (l : List ℕ). IsLined (l ∷ []) (rule_in (ruled k ws))) (sym bare) (lined-one hyphens (one_line_hyphens n));
      wide = All-cons (λ line. width_of line ≡ span ss ws) (rule_line k ws) [] wide (All-nil (λ line. width_of line ≡ span ss ws));
    }

-- the lines of such texts
pub are_even : (n : ℕ) (lines : List (List ℕ)) (padded text : List ℕ) → IsEven n lines padded text → AreEven padded text
are_even n lines padded text even =
    let own = input_lines_of-lined lines padded even.with_blanks in (
      (n, All-same (λ line. width_of line ≡ n) (input_lines_of padded) lines own even.wide),
      input_lines_of-lined (map without_blanks lines) text even.printed ∙ ap (map without_blanks) (sym own),
    )

-- ---- texts of which no line ends in a blank

pub record IsClean (text : List ℕ) : Type 0 where
  pub lines : List (List ℕ)
  pub lined : IsLined lines text
  pub ends : All (λ line. ends_in_blank line ≡ false) lines

pub clean-append : (a b : List ℕ) → IsClean a → IsClean b → IsClean (a ++ b)
clean-append a b first second = record {
  lines = first.lines ++ second.lines;
  lined = lined-append first.lines second.lines a b first.lined second.lined;
  ends = All-append (λ line. ends_in_blank line ≡ false) first.lines second.lines first.ends second.ends;
}

pub clean_nothing : IsClean []
clean_nothing = grind (arith, common_steps, is_one_line)

-- an empty line
pub clean_feed : IsClean (codes "\n")
clean_feed = record {
  lines = [] ∷ [];
  lined = lined-one [] refl;
  ends = All-cons (λ line. ends_in_blank line ≡ false) [] [] refl (All-nil (λ line. ends_in_blank line ≡ false));
}

none_ends : (lines : List (List ℕ)) → All (λ line. ends_in_blank line ≡ false) (map without_blanks lines)
none_ends [] = All-nil (λ line. ends_in_blank line ≡ false)
none_ends (l ∷ ls) = grind (arith, common_steps, ends_without, none_ends ls)

-- lines without the blanks at their ends
pub clean_even : (n : ℕ) (lines : List (List ℕ)) (padded text : List ℕ) → IsEven n lines padded text → IsClean text
clean_even n lines padded text even = record { lines = map without_blanks lines; lined = even.printed; ends = none_ends lines }

-- lines that are alike have columns that fit
pub like_fit : (ss : List Side) (l : List CellModel) (ls : List (List CellModel)) → All (IsLike ss) (l ∷ ls)
    → All (Fit (widths_of (l ∷ ls))) (l ∷ ls) × (length (widths_of (l ∷ ls)) ≡ length ss)
like_fit ss l ls like =
    widths_fit (length ss) l ls
    (All-weaker (IsLike ss) (λ (x : List CellModel). length x ≡ length ss)
    (λ x is. sym (length-map x (λ (c : CellModel). c.side)) ∙ ap length is.0) (l ∷ ls) like)

pub rows_fit : (ss : List Side) (l : List CellModel) (ls : List (List CellModel)) → All (IsRow ss) (l ∷ ls)
    → All (Fit (widths_of (l ∷ ls))) (l ∷ ls) × (length (widths_of (l ∷ ls)) ≡ length ss)
rows_fit ss l ls are = like_fit ss l ls (All-weaker (IsRow ss) (IsLike ss) (λ x is. is.0) (l ∷ ls) are)

-- ---- lines with an open end

aligned : (ss : List Side) (ws : List ℕ) (ls : List (List CellModel)) → All (Fit ws) ls → All (IsLike ss) ls
    → AllZip (λ line end. (front : List ℕ) × (line ≡ front ++ end) × (width_of front ≡ span ss ws)) (map (shown ws) ls) (map end_of ls)
aligned ss ws [] fits like = tt
aligned ss ws (l ∷ ls) fits like = (
  (front ws l, refl, width_of-like ss ws l (All-head (Fit ws) l ls fits) (All-head (IsLike ss) l ls like)),
  aligned ss ws ls (All-tail (Fit ws) l ls fits) (All-tail (IsLike ss) l ls like),
)

-- what is listed, and an empty line
lined_listing : (ss : List Side) (l : List CellModel) (ls : List (List CellModel)) → is_open ss ≡ true → All (IsLike ss) (l ∷ ls)
    → IsLined (map (shown (widths_of (l ∷ ls))) (l ∷ ls) ++ [] ∷ []) (lines_in (widths_of (l ∷ ls)) (l ∷ ls) ++ codes "\n")
lined_listing ss l ls layout like =
    let ws = widths_of (l ∷ ls) in
    let lines = map (shown ws) (l ∷ ls) in
    lined-append lines ([] ∷ []) (lines_in ws (l ∷ ls)) (codes "\n")
    (subst (IsLined lines) (lines_open ss ws (l ∷ ls) layout like)
    (lined_lines ss ws (l ∷ ls) (layout_open ss layout) (like_fit ss l ls like).0 like)) (lined-one [] refl)

-- a part that lists something
pub listing_aligned : (ss : List Side) (headings : List CellModel) (ls : List (List CellModel)) → is_open ss ≡ true
    → All (IsLike ss) (headings ∷ ls) → IsAlignedListing (end_of headings) (map end_of ls) (listing headings ls)
listing_aligned ss headings [] layout like = refl
listing_aligned ss headings (l ∷ ls) layout like =
    let ws = widths_of (headings ∷ l ∷ ls) in
    let lines = map (shown ws) (headings ∷ l ∷ ls) in (
      lines,
      input_lines_of-lined (lines ++ [] ∷ []) (lines_in ws (headings ∷ l ∷ ls) ++ codes "\n")
          (lined_listing ss headings (l ∷ ls) layout like),
      (span ss ws, aligned ss ws (headings ∷ l ∷ ls) (like_fit ss headings (l ∷ ls) like).0 like),
    )

own_ends : (ws : List ℕ) (ls : List (List CellModel)) → All (λ l. HasEnd (end_of l)) ls
    → All (λ line. ends_in_blank line ≡ false) (map (shown ws) ls)
own_ends ws [] has = All-nil (λ line. ends_in_blank line ≡ false)
own_ends ws (l ∷ ls) has =
    let own = All-head (λ l. HasEnd (end_of l)) l ls has in
    All-cons (λ line. ends_in_blank line ≡ false) (shown ws l) (map (shown ws) ls) (ends-append (front ws l) (end_of l) own.0 ∙ own.1)
    (own_ends ws ls (All-tail (λ l. HasEnd (end_of l)) l ls has))

-- and whose lines end in no blank
pub listing_clean : (ss : List Side) (headings : List CellModel) (ls : List (List CellModel)) → is_open ss ≡ true
    → All (IsLike ss) (headings ∷ ls) → All (λ l. HasEnd (end_of l)) (headings ∷ ls) → IsClean (listing headings ls)
listing_clean ss headings [] layout like has = clean_nothing
listing_clean ss headings (l ∷ ls) layout like has =
    let lines = map (shown (widths_of (headings ∷ l ∷ ls))) (headings ∷ l ∷ ls) in
    let E : List ℕ → Type 0 = λ line. ends_in_blank line ≡ false in record {
      lines = lines ++ [] ∷ [];
      lined = lined_listing ss headings (l ∷ ls) layout like;
      ends = All-append E lines ([] ∷ []) (own_ends (widths_of (headings ∷ l ∷ ls)) (headings ∷ l ∷ ls) has)
          (All-cons E [] [] refl (All-nil E));
    }
