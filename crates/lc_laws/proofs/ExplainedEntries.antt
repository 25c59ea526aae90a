-- What is said of an entry tells where the report has it.
use Rattle.std.proofs.Common.{◌≡◌, ℕ, ◌+◌, ◌<◌, ◌≤◌, Bool, true, false, List, [], ◌∷◌, ◌++◌, length, refl, sym, ◌∙◌, ap, subst}
use Rattle.std.proofs.Common.{arith, Option, Some, None, Result, Ok, Err, MatchResult, ◌⊎◌, inl, inr, length-append, append_assoc}
use Rattle.std.proofs.lemmas.Grind.{common_steps}
use Rattle.std.specs.{List.Contains, Option.{is_none, option_map_or, option_or}}
use Rattle.lc_paths.specs.Explanations.Explained.{CitedRule, Explanation, faulted, below, ignored, cited, said_for, said_by, said_of}
use Rattle.lc_paths.specs.Explanations.Explained.{kind_asked, is_directory, OnTheWay, IsSaid}
use Rattle.lc_paths.specs.{Explanations.{Laws.IsSaidKept, OpenDirs.{OpenDirModel, DirStack, open_dir, kind_in}}}
use Rattle.lc_paths.proofs.Explanations.PathSegments.{below_child, joined_end}
use Rattle.lc_glob.proofs.Naming.{some_segment}
use Rattle.lc_glob.specs.{Bytes.slash, Path.{path_in, segments_of}}
use Rattle.lc_level.specs.{Answers.{Item, file_item, directory_item, other_item, name_of, entry_of, Tree}, FaultLines.FaultLineModel}
use Rattle.lc_level.specs.{Job.JobModel, Level.{Reason, other_kind, walked, skipped, file_fate, fate_of, file_reason, reason_of}}
use Rattle.lc_level.specs.{Level.{reason_for, child_job}, Filters.FiltersModel}
use Rattle.lc_level.proofs.WellFormed.{Spread}
use Rattle.lc_rules.specs.{IgnoreChains.rules_in, IgnoreRules.RuleModel, Verdicts.last_match, declared.rule_source.RuleSource.RuleSource}
use Rattle.lc_tree.specs.{Listing.EntryModel, declared.entry.Kind.{Kind, TheVariants.{File, Dir, Other}}}
use Rattle.lc_walk.specs.{FoundAt.{IsListed, WalksInto, LeadsTo}, ReportLines.skipped_paths, RecursiveWalk.walk_of, FoundReports.IsReportOf}
use Rattle.lc_walk.specs.declared.{options.ReportLists.ReportLists, report.Report.Report}
use Rattle.lc_walk.proofs.{Elements.In, Levels.well_formed_items, OneTree.leads_on}
use Rattle.lc_laws.specs.{ByAnswers.IsEntryBy, CountsExplained.TellsOf, ReportedPaths.{IsSkipped, IsKept, IsSkippedAbove}}
use Rattle.lc_laws.proofs.{FirstSegments.first_cut, Following.{asked_as_it_is, went_into, IsSaidBelow, IsSaidIn, said_in, on_the_way}}
use Rattle.lc_laws.proofs.{Following.said_at_end, OneWay.{entered_listed, kind_found, good_name, Entering, IsKnown}, Items.IsItem}
use Rattle.lc_laws.proofs.{Items.{named_item, named_kind, directory_is}, Placed.{fault_there, skipped_there, file_there}}
use Rattle.lc_laws.proofs.TakingPart.{part_has}

skipped_on_the_way : (reason : Option Reason) (is_there : Bool) (Skipped : Reason → Type 0) (Into Beside : Type 0) (r : Reason)
    → reason ≡ Some r → OnTheWay reason is_there Skipped Into Beside → Skipped r
skipped_on_the_way reason is_there Skipped Into Beside r e stack = grind (arith, common_steps)

taken : (cite : RuleSource → ℕ → CitedRule) (rule : Option (RuleSource × RuleModel)) → IsSaidKept (said_by cite None rule)
taken cite rule = grind (arith, common_steps)

-- ---- by what is said

module _ (r : Report) (path : List ℕ) (kind : Kind) (s : FiltersModel) (stack : DirStack) where
  skipped_told : (reason : Reason) → IsSkipped r path reason → TellsOf r path kind (said_for (cited s stack) ignored reason)
  skipped_told reason has = grind (arith, common_steps)

  above_told : (reason : Reason) → IsSkippedAbove r path reason → TellsOf r path kind (said_for (cited s stack) below reason)
  above_told reason has = grind (arith, common_steps)

module _ (Enters : Entering) (s : FiltersModel) (whole : s.only ≡ None) (x : Explanation) (top : JobModel) (t : Tree)
    (known : IsKnown Enters s top t) (asked : ReportLists) (depth : ℕ) (r : Report)
    (report : IsReportOf asked (walk_of s depth top t) r) (files : asked.files ≡ true) (skipped_ones : asked.left_out ≡ true)
    (path : List ℕ) (kind : Kind) (entry : IsEntryBy s top t path kind)
    (kept : IsSaidKept x → Contains (skipped_paths r.skipped.items) path → ⊥) where
  -- ---- one directory to which names lead

  module _ (place : List (List ℕ)) (k : JobModel) (leads : LeadsTo s top t place k) (shallow : length place < depth) where
    module _ (items : List Item) (inside : JobModel) (listed : IsListed k (t place) items inside) where
      is_skipped : (item : Item) → In item items → (own : Kind) (reason : Reason) → fate_of s inside item ≡ skipped own reason
          → IsSkipped r (path_in k.path (name_of item)) reason
      is_skipped = skipped_there s whole top t asked depth r report place k leads shallow items inside listed skipped_ones

      module _ (stack : DirStack) where
        abbrev rule_for : List ℕ → Bool → Option (RuleSource × RuleModel)
        rule_for n is_dir = last_match (rules_in inside.ignore) (path_in inside.path n) is_dir

        skipped_as : (item : Item) → In item items → path ≡ path_in k.path (name_of item) → (own : Kind) (reason : Reason)
            → x ≡ said_for (cited s stack) ignored reason → fate_of s inside item ≡ skipped own reason → TellsOf r path kind x
        skipped_as item has at own reason same fate =
            subst (TellsOf r path kind) (sym same)
            (skipped_told r path kind s stack reason (subst (λ p. IsSkipped r p reason) (sym at) (is_skipped item has own reason fate)))

        kept_as : (rule : Option (RuleSource × RuleModel)) (own : Kind) → kind ≡ own → x ≡ said_by (cited s stack) None rule
            → IsKept r path own → TellsOf r path kind x
        kept_as rule own is_own same has = grind (arith, common_steps)

        -- what is said of an entry there, by itself
        entry_told : (item : Item) → In item items → path ≡ path_in k.path (name_of item) → kind ≡ (entry_of item).kind
            → x ≡ said_of s stack inside (name_of item) (entry_of item).kind → TellsOf r path kind x
        entry_told (file_item n c rules) has at own is = by (file_reason s inside n) refl
          where
            by : (o : Option Reason) → file_reason s inside n ≡ o → TellsOf r path kind x
            by (Some reason) e =
                skipped_as (file_item n c rules) has at File reason (is ∙ ap (λ o. said_by (cited s stack) o (rule_for n false)) e)
                (ap (λ o. option_map_or (skipped File) o (file_fate s inside n c)) e)
            by None e =
                kept_as (rule_for n false) File own (is ∙ ap (λ o. said_by (cited s stack) o (rule_for n false)) e)
                (subst (λ p. IsKept r p File) (sym at)
                (file_there s whole top t asked depth r report place k leads shallow items inside listed files n c rules has e))
        entry_told (directory_item n) has at own is = by (reason_of s inside n true) refl
          where
            by : (o : Option Reason) → reason_of s inside n true ≡ o → TellsOf r path kind x
            by (Some reason) e =
                skipped_as (directory_item n) has at Dir reason (is ∙ ap (λ o. said_by (cited s stack) o (rule_for n true)) e)
                (ap (λ o. option_map_or (skipped Dir) o (walked (child_job inside n))) e)
            by None e =
                let same : x ≡ said_by (cited s stack) None (rule_for n true) =
                is ∙ ap (λ o. said_by (cited s stack) o (rule_for n true)) e in
                kept_as (rule_for n true) Dir own same (kept (subst IsSaidKept (sym same) (taken (cited s stack) (rule_for n true))))
        entry_told (other_item n what) has at own is = by (reason_of s inside n false) refl
          where
            by : (o : Option Reason) → reason_of s inside n false ≡ o → TellsOf r path kind x
            by (Some reason) e =
                skipped_as (other_item n what) has at (Other what) reason
                (is ∙ ap (λ o. said_by (cited s stack) (option_or o (Some (other_kind what))) (rule_for n false)) e)
                (ap (λ o. option_map_or (skipped (Other what)) o (skipped (Other what) (other_kind what))) e)
            by None e =
                skipped_as (other_item n what) has at (Other what) (other_kind what)
                (is ∙ ap (λ o. said_by (cited s stack) (option_or o (Some (other_kind what))) (rule_for n false)) e)
                (ap (λ o. option_map_or (skipped (Other what)) o (skipped (Other what) (other_kind what))) e)

  -- ---- down to the entry

  -- what is said is said in a directory
  record IsMet (stack : DirStack) (place : List (List ℕ)) (k : JobModel) (names : List (List ℕ)) : Type 0 where
    items : List Item
    inside : JobModel
    listed : IsListed k (t place) items inside
    spread : Spread items
    says : IsSaidIn Enters s x stack items inside names

  -- a directory is at fault, and tells so, or what is said is said in it
  met : (stack : DirStack) (place : List (List ℕ)) (k : JobModel) (names : List (List ℕ)) → LeadsTo s top t place k
      → length place < depth → IsSaidBelow Enters s x stack k names → TellsOf r path kind x ⊎ IsMet stack place k names
  met stack place k names leads shallow (entered, enters, said) =
      by (open_dir k (t place)) refl ((known place k leads).0 entered enters)
    where
      Holds : Result OpenDirModel FaultLineModel → Type 0
      Holds w = MatchResult w (λ here. IsSaid Enters s (stack ++ here ∷ []) here names false x)
          (λ fault. x ≡ faulted fault)

      by : (w : Result OpenDirModel FaultLineModel) → open_dir k (t place) ≡ w → entered ≡ open_dir k (t place)
          → TellsOf r path kind x ⊎ IsMet stack place k names
      by (Ok here) is same =
          let l = entered_listed k (t place) here is in
          inr (record {
            items = l.items;
            inside = here.job;
            listed = l.listed;
            spread = well_formed_items (t place) (known place k leads).1 l.items l.listed.here;
            says = said_in Enters s x stack k (t place) l.items here.job names (known place k leads).0 l.listed
                (entered, enters, said);
          })
      by (Err fault) is same =
          let told : x ≡ faulted fault = subst Holds (same ∙ is) said in
          inl (subst (TellsOf r path kind) (sym told)
          (fault_there s whole top t asked depth r report place k leads shallow fault is))

  -- so do names tell that lead down to it from a directory to which names lead
  abbrev Tells : List (List ℕ) → Type 0
  Tells names =
      (stack : DirStack) (place : List (List ℕ)) (k : JobModel) → LeadsTo s top t place k → length place + length names ≤ depth
      → (rest : List ℕ) → segments_of rest ≡ names → path ≡ path_in k.path rest → segments_of path ≡ place ++ names
      → IsSaidBelow Enters s x stack k names → TellsOf r path kind x

  last_tells : (name : List ℕ) → Tells (name ∷ [])
  last_tells name stack place k leads deep rest cut at down said =
      by (met stack place k (name ∷ []) leads (omega (arith, deep)) said)
    where
      by : TellsOf r path kind x ⊎ IsMet stack place k (name ∷ []) → TellsOf r path kind x
      by (inl tells) = tells
      by (inr m) =
          let i = named_item m.items name kind (entry place name [] k m.items down leads m.listed.here) in
          let e = said_at_end Enters s x stack m.items m.inside name m.says in
          let found_kind = named_kind m.items name kind m.spread i in
          entry_told place k leads (omega (arith, deep)) m.items m.inside m.listed e.stack i.item i.has
          (at ∙ ap (path_in k.path) (first_cut rest name [] cut ∙ sym i.named)) (sym i.kind_is)
          (e.is ∙ ap (λ (o : Option Kind). said_of s e.stack m.inside name (kind_asked false o)) found_kind
          ∙ ap (said_of s e.stack m.inside name) (asked_as_it_is kind)
          ∙ (λ j. said_of s e.stack m.inside (sym i.named j) (sym i.kind_is j)))

  on_the_way_tells : (name next : List ℕ) (names : List (List ℕ)) → Tells (next ∷ names) → Tells (name ∷ next ∷ names)
  on_the_way_tells name next names below_tells stack place k leads deep rest cut at down said =
      by (met stack place k (name ∷ next ∷ names) leads (omega (arith, deep)) said)
    where
      by : TellsOf r path kind x ⊎ IsMet stack place k (name ∷ next ∷ names) → TellsOf r path kind x
      by (inl tells) = tells
      by (inr m) = onward (reason_of s m.inside name true) refl
        where
          i : IsItem m.items name Dir
          i = named_item m.items name Dir (entry place name (next ∷ names) k m.items down leads m.listed.here)

          has : In (directory_item name) m.items
          has = subst (λ (y : Item). In y m.items) (directory_is i.item i.kind_is ∙ ap directory_item i.named) i.has

          there : kind_in m.says.here.entries name ≡ Some Dir
          there = ap (λ (es : List EntryModel). kind_in es name) m.says.entries ∙ kind_found m.items m.spread (directory_item name) has

          reason_is : reason_for s m.says.here.job name
              (kind_asked true (kind_in m.says.here.entries name)) ≡ reason_of s m.inside name true
          reason_is =
              ap (λ (o : Option Kind). reason_for s m.says.here.job name (kind_asked true o)) there
              ∙ ap (λ (j : JobModel). reason_of s j name true) m.says.job

          parts : (others : List ℕ) × (rest ≡ name ++ slash ∷ others) × (segments_of others ≡ next ∷ names)
          parts = first_cut rest name (next ∷ names) cut

          some_name : name ≡ [] → ⊥
          some_name = (good_name m.items m.spread (directory_item name) has).0

          inside_path : m.inside.path ≡ k.path
          inside_path = ap (λ (j : JobModel). j.path) m.listed.is

          onward : (o : Option Reason) → reason_of s m.inside name true ≡ o → TellsOf r path kind x
          onward (Some reason) e =
              let same = skipped_on_the_way _ _ _ _ _ reason (reason_is ∙ e)
              (on_the_way Enters s x (stack ++ m.says.here ∷ []) m.says.here name (next ∷ names) (λ n. cc n) m.says.says) in
              subst (TellsOf r path kind) (sym same)
              (above_told r path kind s (stack ++ m.says.here ∷ []) reason (
                path_in k.path name,
                parts.0,
                at ∙ ap (path_in k.path) parts.1 ∙ joined_end k.path name parts.0,
                is_skipped place k leads (omega (arith, deep)) m.items m.inside m.listed (directory_item name) has Dir reason
                    (ap (λ o. option_map_or (skipped Dir) o (walked (child_job m.inside name))) e),
              ))
          onward None e =
              let into = went_into _ _ _ _ _ (reason_is ∙ e) (ap is_directory there)
              (on_the_way Enters s x (stack ++ m.says.here ∷ []) m.says.here name (next ∷ names) (λ n. cc n) m.says.says) in
              let leaves : WalksInto s k (t place) name m.inside = record {
                items = m.items;
                listed = m.listed;
                has = part_has s whole k.path (directory_item name) m.items has;
                taken = ap is_none e;
              } in
              below_tells (stack ++ m.says.here ∷ []) (place ++ name ∷ []) (child_job m.inside name)
              (leads_on s place top k m.inside name t leads leaves)
              (omega (arith, deep, length-append place (name ∷ []))) parts.0 parts.2
              (at ∙ ap (path_in k.path) parts.1 ∙ below_child k.path name parts.0 some_name
              ∙ ap (λ d. path_in (path_in d name) parts.0) (sym inside_path))
              (down ∙ sym (append_assoc place (name ∷ []) (next ∷ names)))
              (subst (λ (j : JobModel). IsSaidBelow Enters s x (stack ++ m.says.here ∷ []) (child_job j name) (next ∷ names))
              m.says.job into)

  -- for each number of names below a directory
  pub told : (names : List (List ℕ)) → Tells names
  told [] = λ stack place k leads deep rest cut at down said. absurd (some_segment rest cut)
  told (name ∷ []) = last_tells name
  told (name ∷ next ∷ names) = on_the_way_tells name next names (told (next ∷ names))
