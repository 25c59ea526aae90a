-- What stands in the lists of a report, by what its walk found.
use Rattle.std.proofs.{Common.{arith, ◌≡◌, ℕ, true, cond, List, [], refl, ap, subst, inl}, lemmas.Grind.common_steps}
use Rattle.std.proofs.lemmas.List.Sorted.{Contains-permutation, IsPermutation-sym}
use Rattle.std.specs.List.{Contains, Sorted.IsPermutation}
use Rattle.lc_glob.specs.Path.{path_in}
use Rattle.lc_level.specs.{FaultLines.FaultLineModel, Level.{skipped_below, file_below, FileLineModel, SkippedLineModel, Reason}}
use Rattle.lc_level.specs.declared.fault_word.FaultWord.{FaultWord}
use Rattle.lc_tree.specs.declared.entry.Kind.{Kind}
use Rattle.lc_walk.specs.{Found.{Found, found_file, found_fault, found_skipped}, ReportLines.{file_paths, fault_paths, skipped_paths}}
use Rattle.lc_walk.specs.FoundReports.{file_in, fault_in, skipped_lines_in, files_of, faults_of, skipped_lines_of, IsReportOf}
use Rattle.lc_walk.specs.declared.{options.ReportLists.ReportLists, report.Report.Report}
use Rattle.lc_walk.proofs.Elements.{In, is_in, contains, in_lists, of_lists, in_mapped, of_mapped}
use Rattle.lc_laws.specs.ReportedPaths.{IsCounted, IsAtFault, IsSkipped}

-- a counted file of a path
pub record CountedAt (xs : List Found) (path : List ℕ) : Type 0 where
  pub directory : List ℕ
  pub file : FileLineModel
  pub found : In (found_file directory file) xs
  pub path_is : path ≡ path_in directory file.path

-- an entry of a path that is left out for a reason
pub record SkippedAt (xs : List Found) (path : List ℕ) (reason : Reason) : Type 0 where
  pub directory : List ℕ
  pub entry : SkippedLineModel
  pub found : In (found_skipped directory entry) xs
  pub path_is : path ≡ path_in directory entry.path
  pub reason_is : entry.reason ≡ reason

counted_by : (xs : List Found) (path : List ℕ) (line : FileLineModel) → line.path ≡ path → (x : Found) → In x xs → In line (file_in x)
    → CountedAt xs path
counted_by xs path line at x has i = grind (arith, common_steps)

skipped_by : (xs : List Found) (path : List ℕ) (kind : Kind) (reason : Reason) (x : Found) → In x xs
    → In (record { path = path; kind = kind; reason = reason }) (skipped_lines_in x) → SkippedAt xs path reason
skipped_by xs path kind reason x has i = grind (arith, common_steps)

module _ (lists : ReportLists) (xs : List Found) (r : Report) (is : IsReportOf lists xs r) where
  module _ (asked : lists.files ≡ true) where
    files : IsPermutation (files_of xs) r.files.items
    files = subst (λ b. IsPermutation (cond b (files_of xs) []) r.files.items) asked is.files_are

    -- what the report has as a counted file was found
    pub counted_found : (path : List ℕ) → IsCounted r path → CountedAt xs path
    counted_found path counted =
        let line = in_mapped (λ (f : FileLineModel). f.path) path r.files.items (is_in path (file_paths r.files.items) counted) in
        let there : In line.0 (files_of xs) =
        is_in line.0 (files_of xs)
        (Contains-permutation _ _ line.0 (IsPermutation-sym _ _ files) (contains line.0 r.files.items line.1)) in
        let x = in_lists file_in line.0 xs there in
        counted_by xs path line.0 line.2 x.0 x.1 x.2

    -- and the other way round
    pub found_counted : (directory : List ℕ) (f : FileLineModel) → In (found_file directory f) xs → IsCounted r (path_in directory f.path)
    found_counted directory f has =
        let line : FileLineModel = file_below directory f in
        let there : In line (files_of xs) = of_lists file_in line (found_file directory f) xs has (inl refl) in
        contains (path_in directory f.path) (file_paths r.files.items)
        (of_mapped (λ (l : FileLineModel). l.path) line r.files.items
        (is_in line r.files.items (Contains-permutation _ _ line files (contains line (files_of xs) there))))

  module _ (asked : lists.left_out ≡ true) where
    skipped_ones : IsPermutation (skipped_lines_of xs) r.skipped.items
    skipped_ones = subst (λ b. IsPermutation (cond b (skipped_lines_of xs) []) r.skipped.items) asked is.skipped_are

    -- what the report has as left out was found
    pub skipped_found : (path : List ℕ) (reason : Reason) → IsSkipped r path reason → SkippedAt xs path reason
    skipped_found path reason (kind, has) =
        let line : SkippedLineModel = record { path = path; kind = kind; reason = reason } in
        let there : In line (skipped_lines_of xs) = is_in line (skipped_lines_of xs)
        (Contains-permutation _ _ line (IsPermutation-sym _ _ skipped_ones) has) in
        let x = in_lists skipped_lines_in line xs there in
        skipped_by xs path kind reason x.0 x.1 x.2

    -- and the other way round
    pub found_is_skipped : (directory : List ℕ) (l : SkippedLineModel) → In (found_skipped directory l) xs
        → IsSkipped r (path_in directory l.path) l.reason
    found_is_skipped directory l has =
        let line : SkippedLineModel = skipped_below directory l in (
          l.kind,
          Contains-permutation _ _ line skipped_ones
              (contains line (skipped_lines_of xs) (of_lists skipped_lines_in line (found_skipped directory l) xs has (inl refl))),
        )

  -- a fault that was found is one of the report
  pub found_faults : (path : List ℕ) (word : FaultWord) → In (found_fault path word) xs
      → Contains r.faults.items (record { path = path; word = word })
  found_faults path word has =
      let line : FaultLineModel = record { path = path; word = word } in
      Contains-permutation _ _ line is.faults_are
      (contains line (faults_of xs) (of_lists fault_in line (found_fault path word) xs has (inl refl)))

  -- so its path is at fault
  pub found_at_fault : (path : List ℕ) (word : FaultWord) → In (found_fault path word) xs → IsAtFault r path
  found_at_fault path word has =
      let line : FaultLineModel = record { path = path; word = word } in
      contains path (fault_paths r.faults.items)
      (of_mapped (λ (l : FaultLineModel). l.path) line r.faults.items (is_in line r.faults.items (found_faults path word has)))

-- a path among those left out is left out for a reason
pub skipped_somehow : (r : Report) (path : List ℕ) → Contains (skipped_paths r.skipped.items) path
    → (reason : Reason) × IsSkipped r path reason
skipped_somehow r path there =
    let line = in_mapped (λ (l : SkippedLineModel). l.path) path r.skipped.items (is_in path (skipped_paths r.skipped.items) there) in
    let same : line.0 ≡ record { path = path; kind = line.0.kind; reason = line.0.reason } =
    ap (λ p. record { path = p; kind = line.0.kind; reason = line.0.reason }) line.2 in
    let has : Contains r.skipped.items (record { path = path; kind = line.0.kind; reason = line.0.reason }) =
    subst (λ (l : SkippedLineModel). Contains r.skipped.items l) same (contains line.0 r.skipped.items line.1) in
    (line.0.reason, (line.0.kind, has))
