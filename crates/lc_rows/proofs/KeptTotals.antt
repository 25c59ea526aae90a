-- Where the totals of a report add up, those of what meets conditions do.
use Rattle.std.proofs.Common.{arith, ◌≡◌, ◌∙◌, ◌<◌, ℕ, Bool, true, false, ◌&&◌, cond, List, [], ◌∷◌, filter, map, refl, sym, ap, ap₂}
use Rattle.std.proofs.{Common.subst, lemmas.{Grind.common_steps, Bool.or_parts, List.{Elements.All-filter, Kept.IsStrictlySortedBy-filter}}}
use Rattle.std.proofs.Math.Path.{fun_ext}
use Rattle.std.specs.List.Sorted.{IsStrictlySortedBy}
use Rattle.lc_level.specs.Level.{FileLineModel}
use Rattle.lc_sheet.specs.Conditions.{ConditionModel, TestModel, compared, is_of_files, is_on_files, meets, needs_files, none_of, one_of}
use Rattle.lc_sheet.specs.{Values.{ValueModel, blank, path}, declared.column.Column.Column}
use Rattle.lc_walk.proofs.{Classes.both_are_all, Keys.{equal_if, exact_keys}, ReportTotals.{filter-map, tally_sums}}
use Rattle.lc_walk.specs.{Key.{Key, key_cmp, same_key}, ReportTotals.{TotalsAddUp, counted_line}, Sums.{no_files, plus}, Tally.CountedFile}
use Rattle.lc_walk.specs.{Tally.{IsTally, files_with, key_of, sums_of_files}, TallyRows.{TallyRowModel, row_with, rows_with, sums_of_rows}}
use Rattle.lc_walk.specs.{Classes.classes_of, declared.{tally.classes.ClassSums.ClassSums, options.ReportLists.ReportLists}}
use Rattle.lc_walk.specs.declared.report.Report.{Report}
use Rattle.lc_rows.specs.Kept.{AreKeptRows, IsPart, file_meets, holds_all, kept_totals, row_meets, value_of_file, value_of_row}
use Rattle.lc_rows.specs.KeptLaws.{KeptTotalsLaw}
use Rattle.lc_sheet.specs.declared.column.Column.TheVariants as column
use Rattle.lc_sheet.specs.declared.key.Key.TheVariants as key

-- ---- the tally of the files whose keys pass a test

same_either : {A : Type 0} (b : Bool) (x : A) → x ≡ cond b x x
same_either true x = refl
same_either false x = refl

module _ (t : Key → Bool) {X : Type 0} (key : X → Key) (k : Key) where
  abbrev having : List X → List X
  having xs = filter (λ x. same_key k (key x)) xs

  abbrev passing : List X → List X
  passing xs = filter (λ x. t (key x)) xs

  -- what has a key, of what passes: all of it, or nothing
  with_key : (xs : List X) → having (passing xs) ≡ cond (t k) (having xs) []
  with_key [] = same_either (t k) []
  with_key (x ∷ xs) = at (same_key k (key x)) (t (key x)) refl refl (with_key xs)
    where
      at : (b c : Bool) → same_key k (key x) ≡ b → t (key x) ≡ c → having (passing xs) ≡ cond (t k) (having xs) []
          → having (cond c (x ∷ passing xs) (passing xs)) ≡ cond (t k) (cond b (x ∷ having xs) (having xs)) []
      at true true e f rest =
          let g : t k ≡ true = ap t (exact_keys k (key x) (equal_if _ e)) ∙ f in
          ap (λ b. cond b (x ∷ having (passing xs)) (having (passing xs))) e ∙ ap (λ l. x ∷ l) rest
          ∙ ap (λ b. x ∷ cond b (having xs) []) g ∙ sym (ap (λ b. cond b (x ∷ having xs) []) g)
      at true false e f rest =
          let g : t k ≡ false = ap t (exact_keys k (key x) (equal_if _ e)) ∙ f in
          rest ∙ ap (λ b. cond b (having xs) []) g ∙ sym (ap (λ b. cond b (x ∷ having xs) []) g)
      at false true e f rest = ap (λ b. cond b (x ∷ having (passing xs)) (having (passing xs))) e ∙ rest
      at false false e f rest = rest

some_sums : (b : Bool) (rs : List TallyRowModel) (fs : List CountedFile) → sums_of_rows rs ≡ sums_of_files fs
    → sums_of_rows (cond b rs []) ≡ sums_of_files (cond b fs [])
some_sums true rs fs same = same
some_sums false rs fs same = refl

module _ (t : Key → Bool) where
  tally_filtered : (fs : List CountedFile) (rs : List TallyRowModel) → IsTally fs rs
      → IsTally (filter (λ f. t (key_of f)) fs) (filter (λ (r : TallyRowModel). t r.key) rs)
  tally_filtered fs rs is = record {
    sums = λ k. ap sums_of_rows (with_key t (λ (r : TallyRowModel). r.key) k rs)
        ∙ some_sums (t k) (rows_with k rs) (files_with k fs) (is.sums k) ∙ sym (ap sums_of_files (with_key t key_of k fs));
    filled = All-filter (λ (r : TallyRowModel). t r.key) (λ (r : TallyRowModel). 0 < r.sums.files) rs is.filled;
    order = subst (IsStrictlySortedBy key_cmp) (filter-map t (λ (r : TallyRowModel). r.key) rs)
        (IsStrictlySortedBy-filter key_cmp t (map (λ (r : TallyRowModel). r.key) rs) is.order);
  }

-- ---- conditions that are not on what files alone have see keys alone

-- a row of a key
abbrev row_at : Key → TallyRowModel
row_at k = row_with k no_files

path_meets : (t : TestModel) (p : List ℕ) → meets t (path p) ≡ meets t blank
path_meets (one_of texts) p = refl
path_meets (none_of texts) p = refl
path_meets (compared comparison n) p = refl

file_at : (f : FileLineModel) (t : TestModel) (c : Column) → is_of_files c ≡ false
    → meets t (value_of_file f c) ≡ meets t (value_of_row (row_at (key_of (counted_line f))) c)
file_at f t c e = grind (arith, common_steps, path_meets)

row_at_key : (r : TallyRowModel) (t : TestModel) (c : Column) → is_of_files c ≡ false
    → meets t (value_of_row r c) ≡ meets t (value_of_row (row_at r.key) c)
row_at_key r t (column.Number n) e = cc
row_at_key r t (column.Key (key.Attribute place)) e = cc
row_at_key r t other e = refl

holds_alike : (p q : Column → ValueModel) → ((t : TestModel) (c : Column) → is_of_files c ≡ false → meets t (p c) ≡ meets t (q c))
    → (cs : List ConditionModel) → needs_files cs ≡ false → holds_all p cs ≡ holds_all q cs
holds_alike p q alike [] none = refl
holds_alike p q alike (c ∷ cs) none =
    let parts = or_parts (is_on_files c) (needs_files cs) none in
    ap₂ (λ a b. a && b) (alike c.test c.column parts.0) (holds_alike p q alike cs parts.1)

module _ (cs : List ConditionModel) (none : needs_files cs ≡ false) where
  files_by_key : (λ (f : FileLineModel). row_meets cs (row_at (key_of (counted_line f)))) ≡ file_meets cs
  files_by_key = fun_ext (λ f. sym (holds_alike (value_of_file f) (value_of_row (row_at (key_of (counted_line f)))) (file_at f) cs none))

  rows_by_key : (λ (r : TallyRowModel). row_meets cs (row_at r.key)) ≡ row_meets cs
  rows_by_key = fun_ext (λ r. sym (holds_alike (value_of_row r) (value_of_row (row_at r.key)) (row_at_key r) cs none))

  -- so the rows that meet them are the tally of the files that do
  tally_kept : (fs : List FileLineModel) (rs : List TallyRowModel) → IsTally (map counted_line fs) rs
      → IsTally (map counted_line (filter (file_meets cs) fs)) (filter (row_meets cs) rs)
  tally_kept fs rs is =
      let t : Key → Bool = λ k. row_meets cs (row_at k) in
      let files : filter (λ (f : CountedFile). t (key_of f)) (map counted_line fs) ≡ map counted_line (filter (file_meets cs) fs) =
      filter-map (λ (f : CountedFile). t (key_of f)) counted_line fs
      ∙ ap (λ (p : FileLineModel → Bool). map counted_line (filter p fs)) files_by_key in
      let rows : filter (λ (r : TallyRowModel). t r.key) rs ≡ filter (row_meets cs) rs =
      ap (λ (p : TallyRowModel → Bool). filter p rs) rows_by_key in
      subst (λ (l : List TallyRowModel). IsTally (map counted_line (filter (file_meets cs) fs)) l) rows
      (subst (λ (l : List CountedFile). IsTally l (filter (λ (r : TallyRowModel). t r.key) rs)) files
      (tally_filtered t (map counted_line fs) rs is))

-- ---- the part of a report

-- the sums over its rows are those over both classes
by_class : (r : Report) → r.classes ≡ classes_of r.rows.items → sums_of_rows r.rows.items ≡ plus r.classes.text r.classes.binary
by_class r are = sym (both_are_all r.rows.items) ∙ ap (λ (c : ClassSums). plus c.text c.binary) (sym are)

part_adds_up : (b : Bool) (cs : List ConditionModel) (r part : Report) → needs_files cs ≡ b → TotalsAddUp r → IsPart cs r part
    → TotalsAddUp part
part_adds_up true cs r part need adds is =
    let tally : IsTally (map counted_line part.files.items) part.rows.items =
    subst (λ (b : Bool). AreKeptRows b cs r part.files.items part.rows.items) need is.rows in
    let totals : part.totals ≡ sums_of_files (map counted_line part.files.items) =
    is.totals ∙ ap (λ b. kept_totals b part.files.items part.rows.items) need in
    let rows : part.totals ≡ sums_of_rows part.rows.items =
    totals ∙ sym (tally_sums (map counted_line part.files.items) part.rows.items tally) in record {
      rows = rows;
      classes = rows ∙ by_class part is.classes;
      files = λ asked. totals;
      tally = λ asked. tally;
    }
part_adds_up false cs r part need adds is =
    let rows : part.rows.items ≡ filter (row_meets cs) r.rows.items =
    subst (λ (b : Bool). AreKeptRows b cs r part.files.items part.rows.items) need is.rows in
    let totals : part.totals ≡ sums_of_rows part.rows.items =
    is.totals ∙ ap (λ b. kept_totals b part.files.items part.rows.items) need in
    let tally : part.lists.files ≡ true → IsTally (map counted_line part.files.items) part.rows.items =
    λ asked. subst (λ (l : List TallyRowModel). IsTally (map counted_line part.files.items) l) (sym rows)
    (subst (λ (l : List FileLineModel). IsTally (map counted_line l) (filter (row_meets cs) r.rows.items)) (sym is.files)
    (tally_kept cs need r.files.items r.rows.items (adds.tally (sym (ap (λ (l : ReportLists). l.files) is.lists) ∙ asked)))) in record {
      rows = totals;
      classes = totals ∙ by_class part is.classes;
      files = λ asked. totals ∙ tally_sums (map counted_line part.files.items) part.rows.items (tally asked);
      tally = tally;
    }

pub kept_totals_law : KeptTotalsLaw
kept_totals_law [] r part adds is = subst TotalsAddUp (sym is) adds
kept_totals_law (c ∷ cs) r part adds is = part_adds_up (needs_files (c ∷ cs)) (c ∷ cs) r part refl adds is
