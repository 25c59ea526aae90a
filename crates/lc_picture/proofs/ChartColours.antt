-- Each row of the chart has the colour of its extension, since no two rows have the same extension.
use Rattle.std.proofs.Common.{◌≡◌, ℕ, ◌+◌, ◌<◌, Bool, true, false, not, List, [], ◌∷◌, length, map, take, get_or, suc, zero, Option, Some}
use Rattle.std.proofs.{Common.{None, refl, sym, ap, ap₂, ◌∙◌, arith}, lemmas.Cmp.{eq_by_cmp_equiv, nat_list_eq_equiv}}
use Rattle.std.proofs.lemmas.List.{get_or-map, get_or-take, length-map, length-take, Folds.list_any_at}
use Rattle.std.proofs.lemmas.List.Sorted.{IsPermutation-map, list_any-IsPermutation}
use Rattle.std.proofs.lemmas.Map.{Keys.{IsDistinct-IsPermutation, IsDistinct-from_sorted, apart_from_distinct}, Views.tells_apart}
use Rattle.std.proofs.lemmas.Slice.Eq.{bytes_eq-Decides}
use Rattle.std.specs.List.{IsDistinct}
use Rattle.lc_census.specs.declared.line_count.Eol.TheVariants.{NoEnd}
use Rattle.lc_rules.specs.declared.states.TextState.TheVariants.{Unspecified}
use Rattle.lc_walk.specs.TallyRows.{TallyRowModel}
use Rattle.lc_rows.specs.{RowKeys.{RowKey, ShownRowModel, has_within, row_key, row_key_cmp, same_row_key}, ShownRows.part_of_row}
use Rattle.lc_rows.proofs.SameKeys.{exact_row_keys, row_key_cmp_total}
use Rattle.lc_picture.specs.{Chart.line_colour, Colours.{place_of, same_extension}, Laws.ColoursLaw, Page.{chart_columns, chart_rows}}

-- ---- the keys of rows by extension

-- what all rows with an extension have in common
abbrev chart_key : Option (List ℕ) → RowKey
chart_key e = record {
  directory = None;
  key = record { attributes = []; tally = record { extension = e; text = Unspecified; eol = NoEnd } };
}

-- whether a key is none of these
abbrev is_other : RowKey → Bool
is_other k = not (same_row_key (chart_key k.key.tally.extension) k)

tied : (k : RowKey) → same_row_key k k ≡ true
tied = (eq_by_cmp_equiv row_key_cmp_total).refl

no_others : (rs : List TallyRowModel) → has_within is_other (map (part_of_row chart_columns) rs) ≡ false
no_others [] = refl
no_others (r ∷ rs) = rw (tied (chart_key r.key.extension)) (no_others rs)

own_key : (rows : List ShownRowModel) (i : ℕ) (d : ShownRowModel) → i < length rows → has_within is_other rows ≡ false
    → row_key (get_or rows i d) ≡ chart_key (get_or rows i d).key.tally.extension
own_key rows i d inside none = at (same_row_key (chart_key r.key.tally.extension) (row_key r)) refl
  where
    r : ShownRowModel
    r = get_or rows i d

    at : (same : Bool) → same_row_key (chart_key r.key.tally.extension) (row_key r) ≡ same → row_key r ≡ chart_key r.key.tally.extension
    at true e = sym (tells_apart exact_row_keys _ _ e)
    at false e =
        let other : is_other (row_key r) ≡ true = ap not e in
        let some = list_any_at (λ (s : ShownRowModel). is_other (row_key s)) rows i d inside other in
        absurd (cc)

-- ---- extensions

same_same : (e : Option (List ℕ)) → same_extension e e ≡ true
same_same None = refl
same_same (Some bytes) = nat_list_eq_equiv.refl bytes

same_is : (a b : Option (List ℕ)) → same_extension a b ≡ true → a ≡ b
same_is None None e = refl
same_is None (Some b) e = absurd (cc)
same_is (Some a) None e = absurd (cc)
same_is (Some a) (Some b) e = ap Some ((bytes_eq-Decides a b).0 e)

-- rows in different places have different extensions
other_extension : (rows : List ShownRowModel) (i j : ℕ) (d : ShownRowModel) → j < i → i < length rows
    → has_within is_other rows ≡ false → IsDistinct same_row_key (map row_key rows)
    → same_extension (get_or rows i d).key.tally.extension (get_or rows j d).key.tally.extension ≡ false
other_extension rows i j d before inside none distinct =
    at (same_extension (get_or rows i d).key.tally.extension (get_or rows j d).key.tally.extension) refl
  where
    at : (same : Bool) → same_extension (get_or rows i d).key.tally.extension (get_or rows j d).key.tally.extension ≡ same
        → same_extension (get_or rows i d).key.tally.extension (get_or rows j d).key.tally.extension ≡ false
    at false e = e
    at true e =
        let same : row_key (get_or rows i d) ≡ row_key (get_or rows j d) =
        own_key rows i d inside none ∙ ap chart_key (same_is _ _ e) ∙ sym (own_key rows j d (omega arith) none) in
        let within : i < length (map row_key rows) = omega (arith, length-map rows row_key) in
        let apart : same_row_key (row_key (get_or rows j d)) (row_key (get_or rows i d)) ≡ false =
        ap (λ (k : RowKey). same_row_key k (row_key (get_or rows i d))) (sym (get_or-map row_key rows j d (row_key d) (omega arith)))
        ∙ ap (same_row_key (get_or (map row_key rows) j (row_key d))) (sym (get_or-map row_key rows i d (row_key d) inside))
        ∙ apart_from_distinct same_row_key (map row_key rows) j i (row_key d) distinct before within in
        let tie = tied (row_key (get_or rows j d)) in
        absurd (cc)

-- ---- places

place_found : (e : Option (List ℕ)) (rows : List ShownRowModel) (i : ℕ) (d : ShownRowModel) → i < length rows
    → same_extension e (get_or rows i d).key.tally.extension ≡ true
    → ((j : ℕ) → j < i → same_extension e (get_or rows j d).key.tally.extension ≡ false) → place_of e rows ≡ i
place_found e [] i d inside here before = absurd (omega arith)
place_found e (r ∷ rs) zero d inside here before = rw here refl
place_found e (r ∷ rs) (suc i) d inside here before =
    let next : i + 1 ≡ suc i = omega arith in
    let found = place_found e rs i d (omega arith) here (λ j low. before (suc j) (omega arith)) in
    rw (before 0 (omega arith)) (ap (λ (n : ℕ). n + 1) found ∙ next)

pub colours_law : ColoursLaw
colours_law by rs fs extensions place d shown inside =
    let summed = shown.0 in
    let added = shown.1 in
    let sorted = shown.2.0 in
    let none : has_within is_other extensions ≡ false =
    sym (list_any-IsPermutation (λ (r : ShownRowModel). is_other (row_key r)) summed extensions sorted)
    ∙ added.present is_other ∙ no_others rs in
    let distinct : IsDistinct same_row_key (map row_key extensions) =
    IsDistinct-IsPermutation same_row_key (eq_by_cmp_equiv row_key_cmp_total).symm (map row_key summed) (map row_key extensions)
    (IsPermutation-map row_key summed extensions sorted) (IsDistinct-from_sorted row_key_cmp (map row_key summed) added.order) in
    let full : place < length extensions = omega (arith, length-take chart_rows extensions) in
    let first : place < chart_rows = omega (arith, length-take chart_rows extensions) in
    let at = λ (j : ℕ) (low : j < chart_rows). get_or-take chart_rows extensions j d low in
    let own = (get_or (take chart_rows extensions) place d).key.tally.extension in
    ap line_colour (place_found own (take chart_rows extensions) place d inside (same_same own)
    (λ j before. ap₂ (λ (a b : ShownRowModel). same_extension a.key.tally.extension b.key.tally.extension) (at place first)
    (at j (omega arith)) ∙ other_extension extensions place j d before full none distinct))
