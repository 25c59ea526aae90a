-- The small directories right in each directory, gone over from the last directory to the first.
use Rattle.std.proofs.Common.{◌≡◌, ℕ, ◌+◌, ◌-◌, ◌<◌, ◌≤◌, List, [], ◌∷◌, ◌++◌, drop, get_or, length, reverse, suc, zero, refl, sym, ap}
use Rattle.std.proofs.{Common.{ap₂, ◌∙◌, arith}, lemmas.Grind.reverse_onto}
use Rattle.lc_rows.specs.RowKeys.{ShownRowModel}
use Rattle.lc_sheet.specs.declared.column.Number.{Number}
use Rattle.lc_picture.specs.{declared.small_directories.SmallDirectories.SmallDirectories, Small.{no_directories, row_level, small_in}}
use Rattle.lc_picture.specs.Small.{smalls_of}
use Rattle.lc_picture.proofs.Steps.{one_on}

-- what a list has for each directory
pub small_read : (by : Number) (least : ℕ) (rs : List ShownRowModel) (i : ℕ) (d : ShownRowModel) → i < length rs
    → get_or (smalls_of by least rs) i no_directories ≡ small_in by least (row_level (get_or rs i d)) (drop (i + 1) rs)
small_read by least rs i d inside =
    at rs i inside ∙ ap (λ (n : ℕ). small_in by least (row_level (get_or rs i d)) (drop n rs)) next
  where
    next : suc i ≡ i + 1
    next = omega arith

    at : (rs : List ShownRowModel) (i : ℕ) → i < length rs
        → get_or (smalls_of by least rs) i no_directories ≡ small_in by least (row_level (get_or rs i d)) (drop (suc i) rs)
    at [] i inside = absurd (omega arith)
    at (r ∷ rs) zero inside = refl
    at (r ∷ rs) (suc i) inside = at rs i (omega arith)

-- the directories from the one before a place on
pub one_before : (r d : ShownRowModel) (rs : List ShownRowModel) (i : ℕ) → 0 < i → i ≤ length rs → r ≡ get_or rs (i - 1) d
    → drop (i - 1) rs ≡ r ∷ drop i rs
one_before r d rs i some inside is =
    let same : i - 1 + 1 ≡ i = omega arith in
    one_on r d rs (i - 1) (omega arith) is ∙ ap (λ (k : ℕ). r ∷ drop k rs) same

-- what a list has for one directory more
pub one_small_more : (by : Number) (least : ℕ) (r : ShownRowModel) (rs after : List ShownRowModel) (s : SmallDirectories)
    (ss ts : List SmallDirectories) → after ≡ r ∷ rs → ss ≡ reverse (smalls_of by least rs) → s ≡ small_in by least (row_level r) rs
    → ts ≡ ss ++ s ∷ [] → ts ≡ reverse (smalls_of by least after)
one_small_more by least r rs after s ss ts next before is more =
    more ∙ ap₂ (λ (l : List SmallDirectories) (t : SmallDirectories). l ++ t ∷ []) before is
    ∙ sym (reverse_onto (smalls_of by least rs) (small_in by least (row_level r) rs) [])
    ∙ ap (λ (l : List ShownRowModel). reverse (smalls_of by least l)) (sym next)
