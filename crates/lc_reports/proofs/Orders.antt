-- Joined reports have no order and no grouping.
use Rattle.std.proofs.Common.{◌≡◌, ℕ, ◌+◌, Bool, true, false, ◌&&◌, List, [], ◌∷◌, ◌++◌, None, refl, sym, ◌∙◌, ap, subst, IsPermutation}
use Rattle.std.proofs.lemmas.Grind.{flat_map-append}
use Rattle.std.proofs.lemmas.List.{Concat.flat_map-cons, Folds.list_all-append}
use Rattle.std.proofs.lemmas.List.Sorted.{All-permutation, IsPermutation-append, IsPermutation-refl, IsPermutation-sym, IsPermutation-trans}
use Rattle.std.proofs.lemmas.List.Sorted.{sum_by-IsPermutation}
use Rattle.std.proofs.lemmas.List.Sums.{AllPass-from_list_all, list_all-from_AllPass, sum_by-append, sum_by-cons}
use Rattle.std.specs.{Cmp.both_ways, List.{list_all, flat_map, sum_by}}
use Rattle.lc_level.specs.{FaultLines.FaultLineModel, Level.{FileLineModel, SkippedLineModel}}
use Rattle.lc_reports.proofs.Uniting.{united_permuted, united_with}
use Rattle.lc_reports.specs.Joined.{IsJoined, IsUnited, all_faults, all_files, all_rows, all_skipped, if_wanted}
use Rattle.lc_reports.specs.Joined.{shared_columns, shared_lists}
use Rattle.lc_sheet.specs.{Keys.{columns_of, has_key}, declared.table_options.Columns.Columns}
use Rattle.lc_reports.specs.{Laws.{JoinGroupLaw, JoinOrderLaw}, LineOrder.{fault_cmp, skipped_cmp}}
use Rattle.lc_walk.proofs.{MovedLists.lists_moved, RowSums.{has_both, has_further, has_permuted, has_same, same_sums}}
use Rattle.lc_walk.specs.{TallyRows.{AddsUp, TallyRowModel}, declared.{options.ReportLists.ReportLists, report.Report.Report}}
use Rattle.lc_walk.specs.declared.tally.sums.Sums.{Sums}

same_lists : (a b : ReportLists) → a.files ≡ b.files → a.left_out ≡ b.left_out → a ≡ b
same_lists a b f l = λ i. record { files = f i; left_out = l i }

-- some sums of each report, added up
abbrev all_sums : (Report → Sums) → List Report → Sums
all_sums of rs = record {
  files = sum_by (λ (r : Report). (of r).files) rs;
  lines = sum_by (λ (r : Report). (of r).lines) rs;
  blank = sum_by (λ (r : Report). (of r).blank) rs;
  bytes = sum_by (λ (r : Report). (of r).bytes) rs;
}

if_moved : {X : Type 0} (wanted : Bool) (xs ys : List X) → IsPermutation xs ys → IsPermutation (if_wanted wanted xs) (if_wanted wanted ys)
if_moved true xs ys moved = moved
if_moved false xs ys moved = IsPermutation-refl []

-- ---- in any order

-- rows in another order add up to the same
adds_moved : (xs ys added : List TallyRowModel) → IsPermutation xs ys → AddsUp xs added → AddsUp ys added
adds_moved xs ys added moved adds = record {
  same = has_further ys xs added (has_permuted ys xs (IsPermutation-sym xs ys moved)) adds.same;
  order = adds.order;
}

all_moved : (p : Report → Bool) (rs moved : List Report) → IsPermutation rs moved → list_all p rs ≡ list_all p moved
all_moved p rs moved m = both_ways (list_all p rs) (list_all p moved)
    (λ e. list_all-from_AllPass p moved (All-permutation (λ r. p r ≡ true) rs moved m (AllPass-from_list_all p rs e)))
    (λ e. list_all-from_AllPass p rs (All-permutation (λ r. p r ≡ true) moved rs (IsPermutation-sym rs moved m)
    (AllPass-from_list_all p moved e)))

sums_moved : (of : Report → Sums) (rs moved : List Report) → IsPermutation rs moved → all_sums of rs ≡ all_sums of moved
sums_moved of rs moved m =
    let sum : (f : Report → ℕ) → sum_by f rs ≡ sum_by f moved = λ f. sym (sum_by-IsPermutation f rs moved m) in
    same_sums _ _ (sum (λ r. (of r).files)) (sum (λ r. (of r).lines)) (sum (λ r. (of r).blank)) (sum (λ r. (of r).bytes))

pub join_order : JoinOrderLaw
join_order rs moved r m is = record {
  rows = adds_moved (all_rows rs) (all_rows moved) r.rows.items (lists_moved (λ (x : Report). x.rows.items) rs moved m) is.rows;
  columns = is.columns ∙ (λ i. columns_of (λ k. all_moved (λ x. has_key x.columns k) rs moved m i));
  totals = is.totals ∙ sums_moved (λ x. x.totals) rs moved m;
  text = is.text ∙ sums_moved (λ x. x.classes.text) rs moved m;
  binary = is.binary ∙ sums_moved (λ x. x.classes.binary) rs moved m;
  directories = is.directories ∙ sym (sum_by-IsPermutation (λ (x : Report). x.directories) rs moved m);
  entries = is.entries ∙ sym (sum_by-IsPermutation (λ (x : Report). x.entries) rs moved m);
  lists = is.lists ∙ same_lists (shared_lists rs) (shared_lists moved) (all_moved (λ x. x.lists.files) rs moved m)
      (all_moved (λ x. x.lists.left_out) rs moved m);
  files = IsPermutation-trans _ _ _ (IsPermutation-sym _ _
      (if_moved r.lists.files (all_files rs) (all_files moved) (lists_moved (λ (x : Report). x.files.items) rs moved m))) is.files;
  file_order = is.file_order;
  faults = united_permuted (all_faults rs) (all_faults moved) r.faults.items
      (lists_moved (λ (x : Report). x.faults.items) rs moved m) is.faults;
  skipped = united_permuted _ _ r.skipped.items (if_moved r.lists.left_out (all_skipped rs) (all_skipped moved)
      (lists_moved (λ (x : Report). x.skipped.items) rs moved m)) is.skipped;
}

-- ---- in any groups

-- what some reports give, where one of them is that of a part
module _ (part others : List Report) (one r : Report) (first : IsJoined part one) (is : IsJoined (one ∷ others) r) where
  lists_of_parts : {X : Type 0} (f : Report → List X) → flat_map f (part ++ others) ≡ flat_map f part ++ flat_map f others
  lists_of_parts f = flat_map-append f part others

  sums_of_parts : (f : Report → ℕ) → f one ≡ sum_by f part → sum_by f (one ∷ others) ≡ sum_by f (part ++ others)
  sums_of_parts f same = sum_by-cons f one others ∙ ap (λ n. n + sum_by f others) same ∙ sym (sum_by-append f part others)

  all_of_parts : (p : Report → Bool) → p one ≡ list_all p part → list_all p (one ∷ others) ≡ list_all p (part ++ others)
  all_of_parts p same = ap (λ b. b && list_all p others) same ∙ sym (list_all-append p part others)

  rows_of_parts : AddsUp (all_rows (part ++ others)) r.rows.items
  rows_of_parts =
      let rows : Report → List TallyRowModel = λ x. x.rows.items in
      let same = has_same (all_rows others) in
      let inside = has_both (all_rows part) one.rows.items (all_rows others) (all_rows others) first.rows.same same in
      let added = subst (λ l. AddsUp l r.rows.items) (flat_map-cons rows one others) is.rows in
      subst (λ l. AddsUp l r.rows.items) (sym (lists_of_parts rows)) (record {
        same = has_further (all_rows part ++ all_rows others) (one.rows.items ++ all_rows others) r.rows.items inside added.same;
        order = added.order;
      })

  sums_of_all : (of : Report → Sums) → of one ≡ all_sums of part → all_sums of (one ∷ others) ≡ all_sums of (part ++ others)
  sums_of_all of same = same_sums _ _ (sums_of_parts (λ x. (of x).files) (ap (λ (s : Sums). s.files) same))
      (sums_of_parts (λ x. (of x).lines) (ap (λ (s : Sums). s.lines) same))
      (sums_of_parts (λ x. (of x).blank) (ap (λ (s : Sums). s.blank) same))
      (sums_of_parts (λ x. (of x).bytes) (ap (λ (s : Sums). s.bytes) same))

  columns_of_parts : r.columns ≡ shared_columns (part ++ others)
  columns_of_parts = is.columns ∙ (λ i. record {
    dir = None;
    attributes = 0;
    ext = all_of_parts (λ x. x.columns.ext) (ap (λ (c : Columns). c.ext) first.columns) i;
    text = all_of_parts (λ x. x.columns.text) (ap (λ (c : Columns). c.text) first.columns) i;
    eol = all_of_parts (λ x. x.columns.eol) (ap (λ (c : Columns). c.eol) first.columns) i;
  })

  shared_of_parts : r.lists ≡ shared_lists (part ++ others)
  shared_of_parts = is.lists ∙ same_lists (shared_lists (one ∷ others)) (shared_lists (part ++ others))
      (all_of_parts (λ x. x.lists.files) (ap (λ (l : ReportLists). l.files) first.lists))
      (all_of_parts (λ x. x.lists.left_out) (ap (λ (l : ReportLists). l.left_out) first.lists))

  -- if each report has a list, the first report has it
  wanted_of_one : (p : Report → Bool) (b : Bool) → b ≡ list_all p (one ∷ others) → b ≡ true → p one ≡ true
  wanted_of_one p b same wanted = left_of (p one) (list_all p others) (sym same ∙ wanted)
    where
      left_of : (a c : Bool) → (a && c) ≡ true → a ≡ true
      left_of true c e = refl
      left_of false c e = absurd (cc)

  files_at : (b : Bool) → (b ≡ true → one.lists.files ≡ true) → IsPermutation (if_wanted b (all_files (one ∷ others))) r.files.items
      → IsPermutation (if_wanted b (all_files (part ++ others))) r.files.items
  files_at false listed moved = moved
  files_at true listed moved =
      let files : Report → List FileLineModel = λ x. x.files.items in
      let own = subst (λ b. IsPermutation (if_wanted b (all_files part)) one.files.items) (listed refl) first.files in
      IsPermutation-trans _ _ _ (subst (λ l. IsPermutation l (one.files.items ++ all_files others)) (sym (lists_of_parts files))
      (IsPermutation-append (all_files part) one.files.items (all_files others) (all_files others) own (IsPermutation-refl _)))
      (subst (λ l. IsPermutation l r.files.items) (flat_map-cons files one others) moved)

  faults_of_parts : IsUnited fault_cmp (all_faults (part ++ others)) r.faults.items
  faults_of_parts =
      let faults : Report → List FaultLineModel = λ x. x.faults.items in
      subst (λ l. IsUnited fault_cmp l r.faults.items) (sym (lists_of_parts faults))
      (united_with (all_faults part) (all_faults others) one.faults.items r.faults.items first.faults
      (subst (λ l. IsUnited fault_cmp l r.faults.items) (flat_map-cons faults one others) is.faults))

  skipped_at : (b : Bool) → (b ≡ true → one.lists.left_out ≡ true)
      → IsUnited skipped_cmp (if_wanted b (all_skipped (one ∷ others))) r.skipped.items
      → IsUnited skipped_cmp (if_wanted b (all_skipped (part ++ others))) r.skipped.items
  skipped_at false listed united = united
  skipped_at true listed united =
      let skipped : Report → List SkippedLineModel = λ x. x.skipped.items in
      let own = subst (λ b. IsUnited skipped_cmp (if_wanted b (all_skipped part)) one.skipped.items) (listed refl) first.skipped in
      subst (λ l. IsUnited skipped_cmp l r.skipped.items) (sym (lists_of_parts skipped))
      (united_with (all_skipped part) (all_skipped others) one.skipped.items r.skipped.items own
      (subst (λ l. IsUnited skipped_cmp l r.skipped.items) (flat_map-cons skipped one others) united))

  grouped : IsJoined (part ++ others) r
  grouped = record {
    rows = rows_of_parts;
    columns = columns_of_parts;
    totals = is.totals ∙ sums_of_all (λ x. x.totals) first.totals;
    text = is.text ∙ sums_of_all (λ x. x.classes.text) first.text;
    binary = is.binary ∙ sums_of_all (λ x. x.classes.binary) first.binary;
    directories = is.directories ∙ sums_of_parts (λ x. x.directories) first.directories;
    entries = is.entries ∙ sums_of_parts (λ x. x.entries) first.entries;
    lists = shared_of_parts;
    files = files_at r.lists.files (wanted_of_one (λ x. x.lists.files) r.lists.files (ap (λ (l : ReportLists). l.files) is.lists)) is.files;
    file_order = is.file_order;
    faults = faults_of_parts;
    skipped = skipped_at r.lists.left_out
        (wanted_of_one (λ x. x.lists.left_out) r.lists.left_out (ap (λ (l : ReportLists). l.left_out) is.lists)) is.skipped;
  }

pub join_group : JoinGroupLaw
join_group part others one r first is = grouped part others one r first is
