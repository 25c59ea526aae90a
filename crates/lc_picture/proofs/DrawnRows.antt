-- Directories that are drawn, gone over from the first on.
use Rattle.std.proofs.Common.{◌≡◌, ℕ, ◌+◌, ◌<◌, nat_le, true, false, List, [], ◌∷◌, ◌++◌, drop, get_or, length, refl, sym, ap, ap₂, ◌∙◌}
use Rattle.std.proofs.Common.{append_assoc}
use Rattle.lc_rows.specs.{RowKeys.ShownRowModel, ShownRows.number_in}
use Rattle.lc_sheet.specs.declared.column.Number.{Number}
use Rattle.lc_picture.specs.{declared.small_directories.SmallDirectories.SmallDirectories, Boxes.{BoxModel, box_of, drawn_boxes}}
use Rattle.lc_picture.specs.{Colours.{first_rows_of, path_of, rows_from}, Small.{no_directories, row_level, small_in, smalls_of}}
use Rattle.lc_picture.proofs.{SmallRows.small_read, Steps.one_on}

-- behind the box of a directory come those of the directories after it
pub drawn_more : (by : Number) (least : ℕ) (kinds next : List ShownRowModel) (r d : ShownRowModel) (rows : List ShownRowModel)
    (i : ℕ) (small : SmallDirectories) (before after all : List BoxModel) → i < length rows → r ≡ get_or rows i d
    → nat_le least (number_in by r.sums) ≡ true → small ≡ get_or (smalls_of by least rows) i no_directories
    → next ≡ rows_from (path_of r) kinds
    → after ≡ before ++ box_of r (first_rows_of (path_of r) (rows_from (path_of r) kinds)) small ∷ []
    → before ++ drawn_boxes by least kinds (drop i rows) ≡ all
    → after ++ drawn_boxes by least next (drop (i + 1) rows) ≡ all
drawn_more by least kinds next r d rows i small before after all inside is e read next_is more same =
    let rest : List ShownRowModel = drop (i + 1) rows in
    let from : List ShownRowModel = rows_from (path_of r) kinds in
    let first : drop i rows ≡ r ∷ rest = one_on r d rows i inside is in
    let small_is : small ≡ small_in by least (row_level r) rest =
    read ∙ small_read by least rows i d inside ∙ ap (λ (x : ShownRowModel). small_in by least (row_level x) rest) (sym is) in
    let own : List ShownRowModel = first_rows_of (path_of r) from in
    let drawn : drawn_boxes by least kinds (r ∷ rest)
    ≡ box_of r own (small_in by least (row_level r) rest) ∷ drawn_boxes by least from rest =
    rw e refl in
    ap₂ (λ (bs : List BoxModel) (ks : List ShownRowModel). bs ++ drawn_boxes by least ks rest) more next_is
    ∙ append_assoc before (box_of r own small ∷ []) (drawn_boxes by least from rest)
    ∙ ap (λ (s : SmallDirectories). before ++ box_of r own s ∷ drawn_boxes by least from rest) small_is
    ∙ ap (λ (bs : List BoxModel). before ++ bs) (sym drawn)
    ∙ ap (λ (rs : List ShownRowModel). before ++ drawn_boxes by least kinds rs) (sym first) ∙ same

-- a directory that is not drawn has none
pub passed_over : (by : Number) (least : ℕ) (kinds : List ShownRowModel) (r d : ShownRowModel) (rows : List ShownRowModel) (i : ℕ)
    (before all : List BoxModel) → i < length rows → r ≡ get_or rows i d → nat_le least (number_in by r.sums) ≡ false
    → before ++ drawn_boxes by least kinds (drop i rows) ≡ all → before ++ drawn_boxes by least kinds (drop (i + 1) rows) ≡ all
passed_over by least kinds r d rows i before all inside is e same =
    let rest : List ShownRowModel = drop (i + 1) rows in
    let first : drop i rows ≡ r ∷ rest = one_on r d rows i inside is in
    let left : drawn_boxes by least kinds (r ∷ rest) ≡ drawn_boxes by least kinds rest = rw e refl in
    ap (λ (bs : List BoxModel). before ++ bs) (sym left)
    ∙ ap (λ (rs : List ShownRowModel). before ++ drawn_boxes by least kinds rs) (sym first) ∙ same
