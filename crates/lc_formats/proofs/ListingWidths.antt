-- How wide the lines of what is listed are.
use Rattle.std.proofs.{Common.{arith, ◌≡◌, ℕ, true, List, [], ◌∷◌, ◌++◌, map, refl, sym, ap₂, append-nil, subst}, lemmas.Grind.common_steps}
use Rattle.std.proofs.{lemmas.List.Elements.{All-cons, All-head, All-map, All-nil, All-tail, All-weaker}}
use Rattle.std.specs.List.{All}
use Rattle.lc_sheet.specs.{ColumnWords.side_of, Sheets.SectionModel, Values.ValueModel, declared.column.{Column.Column, Side.Side}}
use Rattle.lc_formats.specs.{Cells.{heading_cells, heading_value, line_cells, section_cells, shown_text}, Layouts.is_open}
use Rattle.lc_formats.specs.{Readable.{AreReadable, IsListed}, Shares.full_bar, TableText.section_listing, WidthLaws.{HasEnd, HasEnds}}
use Rattle.lc_formats.specs.{WidthLaws.{IsAlignedListing, ListingWidthLaw, last_heading, last_text}}
use Rattle.lc_formats.proofs.{EvenLines.{end_at, end_of}, EvenParts.{IsClean, IsLike, listing_aligned, listing_clean}}
use Rattle.lc_formats.proofs.{SoundValues.{like_headings, like_line, shown_clear}}

-- ---- the last text of a line is its open end

end_last : (s : Side) (t : List ℕ) → is_open (s ∷ []) ≡ true → end_at s t ++ [] ≡ t
end_last s t e = grind (arith, common_steps, append-nil)

end_before : (s u : Side) (ss : List Side) (t : List ℕ) → is_open (s ∷ u ∷ ss) ≡ true → (end_at s t ≡ []) × (is_open (u ∷ ss) ≡ true)
end_before s u ss t e = grind (arith, common_steps)

end_headings : (names : List (List ℕ)) (columns : List Column) → is_open (map side_of columns) ≡ true
    → end_of (heading_cells names columns) ≡ last_heading names columns
end_headings names [] e = refl
end_headings names (c ∷ []) e = end_last (side_of c) (shown_text (heading_value names c)) e
end_headings names (c ∷ d ∷ ds) e =
    let own = end_before (side_of c) (side_of d) (map side_of ds) (shown_text (heading_value names c)) e in
    ap₂ (λ (x y : List ℕ). x ++ y) own.0 (end_headings names (d ∷ ds) own.1)

end_values : (columns : List Column) (values : List ValueModel) → is_open (map side_of columns) ≡ true → AreReadable columns values
    → end_of (line_cells full_bar columns values) ≡ last_text values
end_values [] [] e own = refl
end_values [] (v ∷ vs) e own = absurd own
end_values (c ∷ cs) [] e own = absurd own
end_values (c ∷ []) (v ∷ []) e own = end_last (side_of c) (shown_text v) e
end_values (c ∷ []) (v ∷ w ∷ ws) e own = absurd own.1
end_values (c ∷ d ∷ ds) (v ∷ []) e own = absurd own.1
end_values (c ∷ d ∷ ds) (v ∷ w ∷ ws) e own =
    let front = end_before (side_of c) (side_of d) (map side_of ds) (shown_text v) e in
    ap₂ (λ (x y : List ℕ). x ++ y) front.0 (end_values (d ∷ ds) (w ∷ ws) front.1 own.1)

-- the open ends of lines in these columns
last_texts : (columns : List Column) (lines : List (List ValueModel)) → is_open (map side_of columns) ≡ true
    → All (AreReadable columns) lines → map end_of (map (line_cells full_bar columns) lines) ≡ map last_text lines
last_texts columns [] e own = refl
last_texts columns (l ∷ ls) e own =
    ap₂ (λ (x : List ℕ) (xs : List (List ℕ)). x ∷ xs) (end_values columns l e (All-head (AreReadable columns) l ls own))
    (last_texts columns ls e (All-tail (AreReadable columns) l ls own))

like_section : (s : SectionModel) → IsListed s
    → All (IsLike (map side_of s.columns)) (heading_cells s.attributes s.columns ∷ section_cells full_bar s)
like_section s is =
    let L = IsLike (map side_of s.columns) in
    All-cons L (heading_cells s.attributes s.columns) (section_cells full_bar s) (like_headings s.attributes s.columns is.names)
    (All-map L (line_cells full_bar s.columns) s.lines
    (All-weaker (AreReadable s.columns) (λ l. L (line_cells full_bar s.columns l)) (like_line full_bar s.columns) s.lines is.readable))

-- the lines of a section
pub listing_law : ListingWidthLaw
listing_law s is =
    subst (λ (end : List ℕ). IsAlignedListing end (map last_text s.lines) (section_listing s))
    (end_headings s.attributes s.columns is.opened)
    (subst (λ (ends : List (List ℕ)). IsAlignedListing (end_of (heading_cells s.attributes s.columns)) ends (section_listing s))
    (last_texts s.columns s.lines is.opened is.readable)
    (listing_aligned (map side_of s.columns) (heading_cells s.attributes s.columns) (section_cells full_bar s) is.opened
    (like_section s is)))

-- ---- and their ends

heading_end : (names : List (List ℕ)) (c : Column) → is_open (side_of c ∷ []) ≡ true → HasEnd (shown_text (heading_value names c))
heading_end names c e = grind (arith, common_steps, shown_clear)

last_heading_end : (names : List (List ℕ)) (columns : List Column) → is_open (map side_of columns) ≡ true
    → HasEnd (last_heading names columns)
last_heading_end names [] e = absurd (cc)
last_heading_end names (c ∷ []) e = heading_end names c e
last_heading_end names (c ∷ d ∷ ds) e =
    last_heading_end names (d ∷ ds) (end_before (side_of c) (side_of d) (map side_of ds) [] e).1

open_ends : (columns : List Column) (lines : List (List ValueModel)) → is_open (map side_of columns) ≡ true
    → All (AreReadable columns) lines → All (λ line. HasEnd (last_text line)) lines
    → All (λ cells. HasEnd (end_of cells)) (map (line_cells full_bar columns) lines)
open_ends columns [] e own has = All-nil (λ cells. HasEnd (end_of cells))
open_ends columns (l ∷ ls) e own has =
    let T : List ValueModel → Type 0 = λ line. HasEnd (last_text line) in
    All-cons (λ cells. HasEnd (end_of cells)) (line_cells full_bar columns l) (map (line_cells full_bar columns) ls)
    (subst HasEnd (sym (end_values columns l e (All-head (AreReadable columns) l ls own))) (All-head T l ls has))
    (open_ends columns ls e (All-tail (AreReadable columns) l ls own) (All-tail T l ls has))

-- no line of a section ends in a blank, where no last text does
pub section_clean : (s : SectionModel) → HasEnds s → IsClean (section_listing s)
section_clean s has =
    let is = has.0 in
    listing_clean (map side_of s.columns) (heading_cells s.attributes s.columns) (section_cells full_bar s) is.opened (like_section s is)
    (All-cons (λ cells. HasEnd (end_of cells)) (heading_cells s.attributes s.columns) (section_cells full_bar s)
    (subst HasEnd (sym (end_headings s.attributes s.columns is.opened)) (last_heading_end s.attributes s.columns is.opened))
    (open_ends s.columns s.lines is.opened is.readable has.1))
