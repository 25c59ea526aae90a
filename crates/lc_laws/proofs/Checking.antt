-- What a check says of an entry that no rule of the report leaves out.
use Rattle.std.proofs.Common.{◌≡◌, ◌≢◌, ℕ, ◌+◌, ◌<◌, ◌≤◌, Bool, true, false, nat_eq, List, [], ◌∷◌, ◌++◌, length, refl, sym, ◌∙◌}
use Rattle.std.proofs.Common.{ap, subst, arith, Option, Some, None, Result, Ok, Err, ◌⊎◌, inl, inr, length-append, append_assoc}
use Rattle.std.proofs.{Common.{append-nil, codes}, lemmas.Grind.common_steps, Math.Seq.{get_or-append_seam, take-append_seam}}
use Rattle.std.specs.{List.{Contains, AllByRecursion}, Option.is_none}
use Rattle.lc_paths.specs.{Explanations.OpenDirs.{OpenDirModel, open_dir}, Checks.CheckText.{file_verdict, is_ignored, has_ignored_parent}}
use Rattle.lc_paths.specs.Checks.CheckText.{IsClearTo}
use Rattle.lc_paths.proofs.{Explanations.PathSegments.{below_child, joined_end}, Checks.Directories.is_ignored_parent-slash}
use Rattle.lc_paths.proofs.Checks.Directories.{has_ignored_parent-clear, clear-more}
use Rattle.lc_glob.proofs.Naming.{some_segment}
use Rattle.lc_glob.specs.{Bytes.slash, Path.{path_in, segments_of}}
use Rattle.lc_level.specs.{Answers.{Item, directory_item, name_of, entry_of, Tree}, FaultLines.FaultLineModel, Job.JobModel, Level.Reason}
use Rattle.lc_level.specs.{Level.{by_rule, skipped, reason_of, fate_of, child_job}, Filters.{FiltersModel, no_filters}, TopJob.top_job}
use Rattle.lc_level.proofs.WellFormed.{Spread, other_bytes}
use Rattle.lc_rules.specs.{IgnoreChains.rules_in, IgnoreRules.RuleModel, Verdicts.at_depth, declared.rule_source.RuleSource.RuleSource}
use Rattle.lc_rules.specs.declared.verdicts.Verdict.{Verdict}
use Rattle.lc_tree.specs.{Kinds.is_dir, declared.entry.Kind.{Kind, TheVariants.Dir}}
use Rattle.lc_walk.specs.{FoundAt.{IsListed, WalksInto, LeadsTo}, GivenAnswers.HasListings, RecursiveWalk.walk_of, FoundReports.IsReportOf}
use Rattle.lc_walk.specs.declared.{options.ReportLists.ReportLists, report.Report.Report}
use Rattle.lc_walk.proofs.{Elements.{In, is_in}, Levels.well_formed_items, OneTree.leads_on}
use Rattle.lc_laws.specs.{ByAnswers.IsEntryBy, CountsChecked.IsRuledOut, ReportedPaths.IsSkipped}
use Rattle.lc_laws.proofs.{FirstSegments.first_cut, Items.{IsItem, named_item, directory_is}, OneWay.{entered_listed, good_name}}
use Rattle.lc_laws.proofs.{Placed.{fault_there, skipped_there}, TakingPart.part_has}

-- ---- a path whose directories are not ignored

module _ (verdict : List ℕ → Bool → Verdict) (path : List ℕ) where
  -- no directory ends within a name
  clear_name : (name front others : List ℕ) → path ≡ front ++ (name ++ others) → AllByRecursion (λ b. nat_eq b 47 ≡ false) name
      → IsClearTo verdict path (length front) → IsClearTo verdict path (length (front ++ name))
  clear_name name front others is all to =
      grind (arith, common_steps, append-nil, length-append, get_or-append_seam, clear-more, append_assoc)

  -- nor at a slash before which none is ignored
  clear_slash : (front others : List ℕ) → path ≡ front ++ slash ∷ others → is_ignored (verdict front true) ≡ false
      → IsClearTo verdict path (length front) → IsClearTo verdict path (length (front ++ slash ∷ []))
  clear_slash front others is kept to =
      grind (arith, common_steps, length-append, get_or-append_seam, take-append_seam, is_ignored_parent-slash, clear-more)

-- ---- one entry

-- what is left out for this reason is so by a rule, or there is no reason and it is not ignored
abbrev IsRuled : Option Reason → Bool → Type 0
IsRuled reason ignored =
    ((source : RuleSource) × (line : ℕ) × (reason ≡ Some (by_rule source line))) ⊎ ((reason ≡ None) × (ignored ≡ false))

reason_ruled : (inside : JobModel) (rules : List RuleModel) → rules_in inside.ignore ≡ at_depth 0 rules → (name : List ℕ) (as_dir : Bool)
    → name ≢ codes ".git"
    → IsRuled (reason_of no_filters inside name as_dir) (is_ignored (file_verdict rules (path_in inside.path name) as_dir))
reason_ruled inside rules chain name as_dir other = grind (arith, common_steps, other_bytes)

-- what has a reason is left out for it
fate_skipped : (s : FiltersModel) (inside : JobModel) (item : Item) (reason : Reason)
    → reason_of s inside (name_of item) (is_dir (entry_of item).kind) ≡ Some reason
    → fate_of s inside item ≡ skipped (entry_of item).kind reason
fate_skipped s inside item reason e = grind (arith, common_steps)

-- ---- down to the entry

module _ (t : Tree) (listings : HasListings no_filters (top_job no_filters) t) (asked : ReportLists) (depth : ℕ) (r : Report)
    (report : IsReportOf asked (walk_of no_filters depth (top_job no_filters) t) r) (skipped_ones : asked.left_out ≡ true)
    (faultless : r.faults.items ≡ []) (rules : List RuleModel)
    (chain : (place : List (List ℕ)) (k : JobModel) → LeadsTo no_filters (top_job no_filters) t place k → (items : List Item)
    (inside : JobModel)
    → IsListed k (t place) items inside → rules_in inside.ignore ≡ at_depth 0 rules)
    (path : List ℕ) (kind : Kind) (entry : IsEntryBy no_filters (top_job no_filters) t path kind) where
  -- the report leaves it out by a rule, or it is not ignored and stands below nothing that is
  abbrev pub IsDecided : Type 0
  IsDecided =
      IsRuledOut r path ⊎ ((has_ignored_parent (file_verdict rules) path ≡ false)
      × (is_ignored (file_verdict rules path (is_dir kind)) ≡ false))

  record IsMet (k : JobModel) (place : List (List ℕ)) : Type 0 where
    items : List Item
    inside : JobModel
    listed : IsListed k (t place) items inside
    spread : Spread items
    inside_path : inside.path ≡ k.path
    skips : (item : Item) → In item items → (reason : Reason)
        → reason_of no_filters inside (name_of item) (is_dir (entry_of item).kind) ≡ Some reason
        → IsSkipped r (path_in k.path (name_of item)) reason

  met : (place : List (List ℕ)) (k : JobModel) → LeadsTo no_filters (top_job no_filters) t place k → length place < depth → IsMet k place
  met place k leads shallow = by (open_dir k (t place)) refl
    where
      by : (w : Result OpenDirModel FaultLineModel) → open_dir k (t place) ≡ w → IsMet k place
      by (Ok here) is =
          let l = entered_listed k (t place) here is in
          record {
            items = l.items;
            inside = here.job;
            listed = l.listed;
            spread = well_formed_items (t place) (listings place k leads) l.items l.listed.here;
            inside_path = ap (λ (j : JobModel). j.path) l.listed.is;
            skips = λ item has reason e.
                skipped_there no_filters refl (top_job no_filters) t asked depth r report place k leads shallow l.items here.job l.listed
                skipped_ones item has (entry_of item).kind reason (fate_skipped no_filters here.job item reason e);
          }
      by (Err fault) is =
          let there = fault_there no_filters refl (top_job no_filters) t asked depth r report place k leads shallow fault is in
          absurd (is_in fault [] (subst (λ l. Contains l fault) faultless there))

  abbrev Decides : List (List ℕ) → Type 0
  Decides names =
      (front : List ℕ) (place : List (List ℕ)) (k : JobModel) → LeadsTo no_filters (top_job no_filters) t place k
      → length place + length names ≤ depth → (rest : List ℕ) → segments_of rest ≡ names → path ≡ front ++ rest
      → ((m : List ℕ) → front ++ m ≡ path_in k.path m) → IsClearTo (file_verdict rules) path (length front)
      → (In (codes ".git") names → ⊥) → segments_of path ≡ place ++ names → IsDecided

  last_decides : (name : List ℕ) → Decides (name ∷ [])
  last_decides name front place k leads deep rest cut at joined to no_git down =
      by (reason_ruled m.inside rules (chain place k leads m.items m.inside m.listed) name (is_dir kind) (λ e. no_git (inl e)))
    where
      m : IsMet k place
      m = met place k leads (omega (arith, deep))

      i : IsItem m.items name kind
      i = named_item m.items name kind (entry place name [] k m.items down leads m.listed.here)

      whole : path ≡ front ++ name
      whole = at ∙ ap (λ l. front ++ l) (first_cut rest name [] cut)

      path_is : path ≡ path_in k.path name
      path_is = whole ∙ joined name

      by : IsRuled (reason_of no_filters m.inside name (is_dir kind))
          (is_ignored (file_verdict rules (path_in m.inside.path name) (is_dir kind))) → IsDecided
      by (inl (source, line, e)) =
          let reason = ap (λ n. reason_of no_filters m.inside n (is_dir (entry_of i.item).kind)) i.named
          ∙ ap (λ (d : Kind). reason_of no_filters m.inside name (is_dir d)) i.kind_is ∙ e in
          inl (
            source,
            line,
            inl (subst (λ p. IsSkipped r p (by_rule source line)) (ap (path_in k.path) i.named ∙ sym path_is)
                (m.skips i.item i.has (by_rule source line) reason)),
          )
      by (inr (none, kept)) =
          let good = good_name m.items m.spread i.item i.has in
          let no_slash : AllByRecursion (λ b. nat_eq b 47 ≡ false) name =
          subst (λ n. AllByRecursion (λ b. nat_eq b 47 ≡ false) n) i.named good.1 in
          let clear = clear_name (file_verdict rules) path name front []
          (whole ∙ ap (λ l. front ++ l) (sym (append-nil name))) no_slash to in
          inr (
            has_ignored_parent-clear (file_verdict rules) path
                (subst (λ l. IsClearTo (file_verdict rules) path (length l)) (sym whole) clear),
            ap (λ p. is_ignored (file_verdict rules p (is_dir kind))) (path_is ∙ ap (λ d. path_in d name) (sym m.inside_path)) ∙ kept,
          )

  on_the_way_decides : (name next : List ℕ) (names : List (List ℕ)) → Decides (next ∷ names) → Decides (name ∷ next ∷ names)
  on_the_way_decides name next names below_decides front place k leads deep rest cut at joined to no_git down =
      by (reason_ruled m.inside rules (chain place k leads m.items m.inside m.listed) name true (λ e. no_git (inl e)))
    where
      m : IsMet k place
      m = met place k leads (omega (arith, deep))

      i : IsItem m.items name Dir
      i = named_item m.items name Dir (entry place name (next ∷ names) k m.items down leads m.listed.here)

      has : In (directory_item name) m.items
      has = subst (λ (y : Item). In y m.items) (directory_is i.item i.kind_is ∙ ap directory_item i.named) i.has

      good : (name ≡ [] → ⊥) × AllByRecursion (λ b. nat_eq b 47 ≡ false) name
      good = good_name m.items m.spread (directory_item name) has

      parts : (others : List ℕ) × (rest ≡ name ++ slash ∷ others) × (segments_of others ≡ next ∷ names)
      parts = first_cut rest name (next ∷ names) cut

      whole : path ≡ front ++ (name ++ slash ∷ parts.0)
      whole = at ∙ ap (λ l. front ++ l) parts.1

      by : IsRuled (reason_of no_filters m.inside name true) (is_ignored (file_verdict rules (path_in m.inside.path name) true)) → IsDecided
      by (inl (source, line, e)) = inl (
        source,
        line,
        inr (
          path_in k.path name,
          parts.0,
          whole ∙ joined (name ++ slash ∷ parts.0) ∙ joined_end k.path name parts.0,
          m.skips (directory_item name) has (by_rule source line) e,
        ),
      )
      by (inr (none, kept)) =
          let leaves : WalksInto no_filters k (t place) name m.inside = record {
            items = m.items;
            listed = m.listed;
            has = part_has no_filters refl k.path (directory_item name) m.items has;
            taken = ap is_none none;
          } in
          let longer : List ℕ = (front ++ name) ++ slash ∷ [] in
          let same : path ≡ (front ++ name) ++ slash ∷ parts.0 = whole ∙ sym (append_assoc front name (slash ∷ parts.0)) in
          let named = clear_name (file_verdict rules) path name front (slash ∷ parts.0) whole good.1 to in
          let directory : front ++ name ≡ path_in m.inside.path name = joined name ∙ ap (λ d. path_in d name) (sym m.inside_path) in
          let clear = clear_slash (file_verdict rules) path (front ++ name) parts.0 same
          (ap (λ d. is_ignored (file_verdict rules d true)) directory ∙ kept) named in
          below_decides longer (place ++ name ∷ []) (child_job m.inside name)
          (leads_on no_filters place (top_job no_filters) k m.inside name t leads leaves)
          (omega (arith, deep, length-append place (name ∷ []))) parts.0 parts.2
          (same ∙ sym (append_assoc (front ++ name) (slash ∷ []) parts.0))
          (λ l. append_assoc (front ++ name) (slash ∷ []) l ∙ append_assoc front name (slash ∷ l) ∙ joined (name ++ slash ∷ l)
          ∙ below_child k.path name l good.0 ∙ ap (λ d. path_in (path_in d name) l) (sym m.inside_path))
          clear (λ g. no_git (inr g))
          (down ∙ sym (append_assoc place (name ∷ []) (next ∷ names)))

  -- for each number of names below a directory
  pub decided : (names : List (List ℕ)) → Decides names
  decided [] = λ front place k leads deep rest cut at joined to no_git down. absurd (some_segment rest cut)
  decided (name ∷ []) = last_decides name
  decided (name ∷ next ∷ names) = on_the_way_decides name next names (decided (next ∷ names))
