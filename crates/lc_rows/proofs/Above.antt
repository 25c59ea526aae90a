-- Rows that are added to the directories right above theirs, level by level.
use Rattle.std.proofs.lemmas.Grind.{common_steps, flat_map-append}
use Rattle.std.proofs.lemmas.List.{Elements.filter-append, append-nil, Folds.list_any-append, FromFn.map-range_with_len_more}
use Rattle.std.proofs.lemmas.List.Sums.{sum_by-append, sum_by-cons}
use Rattle.std.proofs.{lemmas.Bool.Decides.nat_tests, Common.{◌≡◌, ℕ, ◌+◌, ◌-◌, ◌<◌, ◌≤◌, min, suc, zero, Bool, true, false, ◌||◌, List}}
use Rattle.std.proofs.Common.{[], ◌∷◌, ◌++◌, map, length, nat_le, Option, Some, None, option_map, refl, sym, ◌∙◌, ap, ap₂, subst, arith}
use Rattle.std.proofs.Common.{append_assoc}
use Rattle.std.specs.List.{slice_index_or, Sorted.IsNonDecreasingBy, flat_map, list_any, range_with_len, sum_by}
use Rattle.lc_walk.specs.{Sums.plus, declared.tally.sums.Sums.Sums}
use Rattle.lc_walk.proofs.{Filtered.{part, sum_by-filter}, RowSums.same_sums}
use Rattle.lc_rows.specs.{Directories.first_names, LevelParts.{AreBelow, HaveSumsOf, height, key_at, level_in, level_parts, level_to}}
use Rattle.lc_rows.specs.{LevelParts.{next_above, next_at, own_row, row_at}, RowKeys.{RowKey, ShownRowModel, has_within, row_key, row_with}}
use Rattle.lc_rows.specs.{RowKeys.{rows_within, sums_of_shown}, ShownRows.AreAddedUp}
use Rattle.lc_rows.proofs.{Levels.{first_again, level_of_first}, TreeParts.{raised_parts, same_below}}

-- ---- one row

cut_again : (o : Option (List ℕ)) (j n : ℕ) → j ≤ n
    → option_map (first_names j) (option_map (first_names n) o) ≡ option_map (first_names j) o
cut_again None j n few = refl
cut_again (Some d) j n few = ap Some (first_again d j n few)

level_cut : (o : Option (List ℕ)) (n : ℕ) → level_in (option_map (first_names n) o) ≡ min n (level_in o)
level_cut None n = omega arith
level_cut (Some d) n = level_of_first d n

-- a row adds to all directories above it what the row right above adds, and itself
level_next : (n : ℕ) (r : ShownRowModel) (m : ℕ) → m ≡ level_to n (row_key r)
    → map (λ level. row_at level r) (range_with_len 0 (m + 1)) ≡ flat_map (level_parts n) (next_at m r) ++ row_at m r ∷ []
level_next n r zero is = map-range_with_len_more (λ level. row_at level r) 0 0 0 (omega arith)
level_next n r (suc j) is =
    let deep : level_to n (key_at j (row_key r)) + 1 ≡ suc j = omega (arith, level_cut r.directory j) in
    let above : level_parts n (row_at j r) ≡ map (λ level. row_at level r) (range_with_len 0 (suc j)) =
    ap (λ k. map (λ level. row_at level (row_at j r)) (range_with_len 0 k)) deep
    ∙ same_below (λ level. row_at level (row_at j r)) (λ level. row_at level r) (suc j)
    (λ i lt. ap (λ d. row_with (record { directory = d; key = r.key }) r.sums) (cut_again r.directory i j (omega arith))) in
    map-range_with_len_more (λ level. row_at level r) 0 (suc j) (suc j) (omega arith)
    ∙ ap (λ l. l ++ row_at (suc j) r ∷ []) (sym (append-nil (level_parts n (row_at j r)) ∙ above))

row_next : (n : ℕ) (r : ShownRowModel) → level_parts n r ≡ flat_map (level_parts n) (next_above n r) ++ own_row n r ∷ []
row_next n r = level_next n r (level_to n (row_key r)) refl

-- ---- rows of the same sums

have_same : (rs : List ShownRowModel) → HaveSumsOf rs rs
have_same rs = record { sums = λ keys. refl; present = λ keys. refl }

have_further : (xs ys zs : List ShownRowModel) → HaveSumsOf xs ys → HaveSumsOf ys zs → HaveSumsOf xs zs
have_further xs ys zs a b = record { sums = λ keys. b.sums keys ∙ a.sums keys; present = λ keys. b.present keys ∙ a.present keys }

have_added : (xs ys : List ShownRowModel) → AreAddedUp xs ys → HaveSumsOf xs ys
have_added xs ys added = record { sums = added.sums; present = added.present }

sums_of_both : (xs ys : List ShownRowModel) → sums_of_shown (xs ++ ys) ≡ plus (sums_of_shown xs) (sums_of_shown ys)
sums_of_both xs ys =
    same_sums _ _ (sum_by-append (λ r. r.sums.files) xs ys) (sum_by-append (λ r. r.sums.lines) xs ys)
    (sum_by-append (λ r. r.sums.blank) xs ys) (sum_by-append (λ r. r.sums.bytes) xs ys)

have_both : (ws xs ys zs : List ShownRowModel) → HaveSumsOf ws xs → HaveSumsOf ys zs → HaveSumsOf (ws ++ ys) (xs ++ zs)
have_both ws xs ys zs a b =
    let within : (keys : RowKey → Bool) (us vs : List ShownRowModel)
    → sums_of_shown (rows_within keys (us ++ vs)) ≡ plus (sums_of_shown (rows_within keys us)) (sums_of_shown (rows_within keys vs)) =
    λ keys us vs. ap sums_of_shown (filter-append (λ r. keys (row_key r)) us vs)
    ∙ sums_of_both (rows_within keys us) (rows_within keys vs) in
    record {
      sums = λ keys. within keys xs zs ∙ ap₂ plus (a.sums keys) (b.sums keys) ∙ sym (within keys ws ys);
      present = λ keys. list_any-append (λ r. keys (row_key r)) xs zs ∙ ap₂ (λ c d. c || d) (a.present keys) (b.present keys)
          ∙ sym (list_any-append (λ r. keys (row_key r)) ws ys);
    }

-- ---- rows

or_moved : (a b c d : Bool) → ((a || (b || false)) || (c || d)) ≡ ((b || c) || (a || d))
or_moved a b c d = grind (arith, common_steps)

module _ (n : ℕ) where
  raised_sum : (g : ShownRowModel → ℕ) (rs : List ShownRowModel) → sum_by g (flat_map (level_parts n) rs)
      ≡ sum_by g (map (own_row n) rs) + sum_by g (flat_map (level_parts n) (flat_map (next_above n) rs))
  raised_sum g [] = refl
  raised_sum g (r ∷ rs) =
      let others : List ShownRowModel = flat_map (level_parts n) (flat_map (next_above n) rs) in
      let first : List ShownRowModel = flat_map (level_parts n) (next_above n r) in
      let apart : sum_by g (flat_map (level_parts n) (next_above n r ++ flat_map (next_above n) rs)) ≡ sum_by g first + sum_by g others =
      ap (sum_by g) (flat_map-append (level_parts n) (next_above n r) (flat_map (next_above n) rs)) ∙ sum_by-append g first others in
      let own : sum_by g (level_parts n r) ≡ sum_by g first + sum_by g (own_row n r ∷ []) =
      ap (sum_by g) (row_next n r) ∙ sum_by-append g first (own_row n r ∷ []) in
      omega (
        arith,
        sum_by-append g (level_parts n r) (flat_map (level_parts n) rs),
        sum_by-cons g (own_row n r) [],
        sum_by-cons g (own_row n r) (map (own_row n) rs),
        raised_sum g rs,
      )

  raised_any : (p : ShownRowModel → Bool) (rs : List ShownRowModel) → list_any p (flat_map (level_parts n) rs)
      ≡ (list_any p (map (own_row n) rs) || list_any p (flat_map (level_parts n) (flat_map (next_above n) rs)))
  raised_any p [] = refl
  raised_any p (r ∷ rs) =
      let others : List ShownRowModel = flat_map (level_parts n) (flat_map (next_above n) rs) in
      let first : List ShownRowModel = flat_map (level_parts n) (next_above n r) in
      let apart : list_any p (flat_map (level_parts n) (next_above n r ++ flat_map (next_above n) rs))
      ≡ (list_any p first || list_any p others) =
      ap (list_any p) (flat_map-append (level_parts n) (next_above n r) (flat_map (next_above n) rs)) ∙ list_any-append p first others in
      list_any-append p (level_parts n r) (flat_map (level_parts n) rs)
      ∙ ap (λ l. list_any p l || list_any p (flat_map (level_parts n) rs)) (row_next n r)
      ∙ ap (λ b. b || list_any p (flat_map (level_parts n) rs)) (list_any-append p first (own_row n r ∷ []))
      ∙ ap (λ b. (list_any p first || (p (own_row n r) || false)) || b) (raised_any p rs)
      ∙ or_moved (list_any p first) (p (own_row n r)) (list_any p (map (own_row n) rs)) (list_any p others)
      ∙ ap (λ b. (p (own_row n r) || list_any p (map (own_row n) rs)) || b) (sym apart)

  raised_alike : (rs : List ShownRowModel)
      → HaveSumsOf (flat_map (level_parts n) rs) (map (own_row n) rs ++ flat_map (level_parts n) (flat_map (next_above n) rs))
  raised_alike rs =
      let others : List ShownRowModel = flat_map (level_parts n) (flat_map (next_above n) rs) in
      let one : (keys : RowKey → Bool) (v : Sums → ℕ)
      → sum_by (λ (r : ShownRowModel). v r.sums) (rows_within keys (map (own_row n) rs ++ others))
      ≡ sum_by (λ (r : ShownRowModel). v r.sums) (rows_within keys (flat_map (level_parts n) rs)) =
      λ keys v. (
      let p : ShownRowModel → Bool = λ r. keys (row_key r) in
      let u : ShownRowModel → ℕ = λ r. v r.sums in
      sum_by-filter p u (map (own_row n) rs ++ others) ∙ sum_by-append (part p u) (map (own_row n) rs) others
      ∙ sym (raised_sum (part p u) rs) ∙ sym (sum_by-filter p u (flat_map (level_parts n) rs))
      ) in
      record {
        sums = λ keys. same_sums _ _ (one keys (λ s. s.files)) (one keys (λ s. s.lines)) (one keys (λ s. s.blank))
            (one keys (λ s. s.bytes));
        present = λ keys. list_any-append (λ (r : ShownRowModel). keys (row_key r)) (map (own_row n) rs) others
            ∙ sym (raised_any (λ (r : ShownRowModel). keys (row_key r)) rs);
      }

  -- ---- the rows that are left

  below_all : (rs : List ShownRowModel) → AreBelow n (n + 1) rs
  below_all [] = refl
  below_all (r ∷ rs) =
      let high : nat_le (n + 1) (level_to n (row_key r)) ≡ false = grind (arith, nat_tests) in
      ap (λ b. b || has_within (λ k. nat_le (n + 1) (level_to n k)) rs) high ∙ below_all rs

  next_below : (left : ℕ) (r : ShownRowModel) (m : ℕ) → m ≡ level_to n (row_key r) → nat_le left m ≡ false
      → AreBelow n (left - 1) (next_at m r)
  next_below left r m is low = grind (arith, common_steps, level_cut, nat_tests)

  both_none : (a b : Bool) → (a || b) ≡ false → (a ≡ false) × (b ≡ false)
  both_none true b e = absurd (cc)
  both_none false b e = (refl, e)

  below_next : (left : ℕ) (rs : List ShownRowModel) → AreBelow n left rs → AreBelow n (left - 1) (flat_map (next_above n) rs)
  below_next left [] low = refl
  below_next left (r ∷ rs) low =
      let p : ShownRowModel → Bool = λ q. nat_le (left - 1) (level_to n (row_key q)) in
      let parts = both_none (nat_le left (level_to n (row_key r))) (has_within (λ k. nat_le left (level_to n k)) rs) low in
      list_any-append p (next_above n r) (flat_map (next_above n) rs)
      ∙ ap (λ b. b || list_any p (flat_map (next_above n) rs)) (next_below left r (level_to n (row_key r)) refl parts.0)
      ∙ below_next left rs parts.1

  below_both : (left : ℕ) (xs ys : List ShownRowModel) → AreBelow n left xs → AreBelow n left ys → AreBelow n left (xs ++ ys)
  below_both left xs ys a b =
      list_any-append (λ (r : ShownRowModel). nat_le left (level_to n (row_key r))) xs ys
      ∙ ap (λ c. c || has_within (λ k. nat_le left (level_to n k)) ys) a ∙ b

  none_below : (rs : List ShownRowModel) → AreBelow n 0 rs → rs ≡ []
  none_below [] low = refl
  none_below (r ∷ rs) low =
      let all : nat_le 0 (level_to n (row_key r)) ≡ true = grind (arith, nat_tests) in
      let both = both_none (nat_le 0 (level_to n (row_key r))) (has_within (λ k. nat_le 0 (level_to n k)) rs) low in
      absurd (cc)

  -- rows of a greater height than that of a level are below it
  pub below_from : (level : ℕ) (rs : List ShownRowModel)
      → ((j : ℕ) (d : ShownRowModel) → j < length rs → level_to n (row_key (slice_index_or rs j d)) < level) → AreBelow n level rs
  below_from level [] low = refl
  below_from level (r ∷ rs) low =
      let first = low 0 r (omega arith) in
      let high : nat_le level (level_to n (row_key r)) ≡ false = grind (arith, nat_tests) in
      ap (λ b. b || has_within (λ k. nat_le level (level_to n k)) rs) high
      ∙ below_from level rs (λ j d there. low (suc j) d (omega arith))

-- the rows so far, with what the raised rows and the other rows add to the directories above theirs
pub record IsRaised (n : ℕ) (rows all raised rest : List ShownRowModel) (left : ℕ) : Type 0 where
  pub same : HaveSumsOf (flat_map (level_parts n) rows) (all ++ flat_map (level_parts n) (raised ++ rest))
  pub low : AreBelow n left (raised ++ rest)
  pub order : IsNonDecreasingBy (height n) rest

pub raised_first : (n : ℕ) (rows : List ShownRowModel) → IsNonDecreasingBy (height n) rows → IsRaised n rows [] [] rows (n + 1)
raised_first n rows order = record { same = have_same (flat_map (level_parts n) rows); low = below_all n rows; order = order }

-- one level more: the raised rows and some others are added up, and what they add to the next level is raised
module _ (n : ℕ) (rows all raised rest parts others level above : List ShownRowModel) (left : ℕ)
    (was : IsRaised n rows all raised rest left) (apart : parts ++ others ≡ raised ++ rest) (added : AreAddedUp parts level)
    (next : AreAddedUp (flat_map (next_above n) level) above) where
  abbrev with_above : List ShownRowModel → List ShownRowModel
  with_above rs = flat_map (level_parts n) rs

  one_level : HaveSumsOf (with_above parts) (map (own_row n) level ++ with_above above)
  one_level =
      have_further (with_above parts) (with_above level) (map (own_row n) level ++ with_above above)
      (raised_parts n parts level (have_added parts level added))
      (have_further (with_above level) (map (own_row n) level ++ with_above (flat_map (next_above n) level))
      (map (own_row n) level ++ with_above above) (raised_alike n level)
      (have_both (map (own_row n) level) (map (own_row n) level) (with_above (flat_map (next_above n) level)) (with_above above)
      (have_same (map (own_row n) level)) (raised_parts n (flat_map (next_above n) level) above (have_added _ above next))))

  before : all ++ (with_above parts ++ with_above others) ≡ all ++ with_above (raised ++ rest)
  before = ap (λ l. all ++ l) (sym (flat_map-append (level_parts n) parts others) ∙ ap with_above apart)

  after : all ++ ((map (own_row n) level ++ with_above above) ++ with_above others)
      ≡ (all ++ map (own_row n) level) ++ with_above (above ++ others)
  after = rw (flat_map-append (level_parts n) above others) (simp append_assoc)

  pub raised_more : IsNonDecreasingBy (height n) others → AreBelow n (left - 1) others
      → IsRaised n rows (all ++ map (own_row n) level) above others (left - 1)
  raised_more order low = record {
    same = have_further (with_above rows) (all ++ with_above (raised ++ rest))
        ((all ++ map (own_row n) level) ++ with_above (above ++ others)) was.same
        (subst (λ l. HaveSumsOf l ((all ++ map (own_row n) level) ++ with_above (above ++ others))) before
        (subst (HaveSumsOf (all ++ (with_above parts ++ with_above others))) after
        (have_both all all (with_above parts ++ with_above others) _ (have_same all)
        (have_both (with_above parts) (map (own_row n) level ++ with_above above) (with_above others) (with_above others) one_level
        (have_same (with_above others))))));
    low = below_both n (left - 1) above others
        (next.present (λ k. nat_le (left - 1) (level_to n k)) ∙ below_next n left level
        (added.present (λ k. nat_le left (level_to n k)) ∙ (both_none n (has_within (λ k. nat_le left (level_to n k)) parts) _
        (sym (list_any-append (λ (r : ShownRowModel). nat_le left (level_to n (row_key r))) parts others)
        ∙ subst (AreBelow n left) (sym apart) was.low)).0)) low;
    order = order;
  }

pub raised_all : (n : ℕ) (rows all raised rest : List ShownRowModel) (left : ℕ) → IsRaised n rows all raised rest left → left ≡ 0
    → HaveSumsOf (flat_map (level_parts n) rows) all
raised_all n rows all raised rest left was none = grind (arith, common_steps, none_below, append-nil)
