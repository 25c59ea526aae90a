-- The report of a count agrees with what is said of each path.
use Rattle.std.proofs.{lemmas.Grind.common_steps, Common.{◌≡◌, ℕ, ◌+◌, ◌≤◌, true, false, cond, List, [], length, refl, ◌∙◌, ap, subst}}
use Rattle.std.proofs.Common.{arith, None}
use Rattle.std.specs.List.{Contains}
use Rattle.lc_paths.specs.Explanations.Explained.{Explanation, ignored, cited, said_for, IsExplained, said_of_none}
use Rattle.lc_paths.specs.{Explanations.{Laws.{IsSaidKept, EntryLaw}, OpenDirs.{DirStack, MayEnter}}}
use Rattle.lc_paths.specs.declared.explaining.explain_options.ExplainOptions.{ExplainOptions}
use Rattle.lc_glob.specs.Path.{path_in, segments_of}
use Rattle.lc_level.specs.{Answers.Tree, Level.{Reason, counted, skipped}, Filters.FiltersModel, TopJob.top_job}
use Rattle.lc_text.specs.PathLines.{is_bad_path}
use Rattle.lc_tree.specs.Trees.{Listings, Contents}
use Rattle.lc_walk.specs.{ReportLines.skipped_paths, RecursiveWalk.walk_of, WalkOptions.{asked_by, top_of}, FoundReports.IsReportOf}
use Rattle.lc_walk.specs.{declared.{options.{Options.Options, ReportLists.ReportLists}, report.Report.Report}}
use Rattle.lc_walk.proofs.{FoundByPlace.place_by_walk, RowTrees.by_answers}
use Rattle.lc_laws.specs.{ByAnswers.{EntersBy, SaysEntering, IsEntryBy}, CountsExplained.{AskAlike, IsSaidSkipped, AgreesOn}}
use Rattle.lc_laws.specs.{CountsExplained.{AnswersExplainedLaw, ExplainedLaw}, ReportedPaths.{IsCounted, IsSkipped}}
use Rattle.lc_laws.proofs.{ExplainedEntries.told, Following.{IsSaidBelow, entry_agrees}, Items.entry_by_lists, OneWay.{Entering, IsKnown}}
use Rattle.lc_laws.proofs.{OneWay.{known_by_tree, known_by_one}, ReportLists.{counted_found, skipped_found, skipped_somehow}}
use Rattle.lc_laws.proofs.SameWay.{said_by_other}

-- what is said for a reason, by any citing of its rule
said_skipped : (s : FiltersModel) (stack : DirStack) (reason : Reason) (x : Explanation) → x
    ≡ said_for (cited s stack) ignored reason
    → IsSaidSkipped reason x
said_skipped s stack reason x e = grind (arith, common_steps)

-- what is said to be left out is not said to be taken
not_both : (reason : Reason) (x : Explanation) → IsSaidSkipped reason x → IsSaidKept x → ⊥
not_both reason x e is = grind (arith, common_steps)

module _ (law : EntryLaw) (Enters : Entering) (s : FiltersModel) (whole : s.only ≡ None) (x : Explanation)
    (t : Tree) (known : IsKnown Enters s (top_job s) t)
    (asked : ReportLists) (depth : ℕ) (r : Report) (report : IsReportOf asked (walk_of s depth (top_job s) t) r)
    (files : asked.files ≡ true) (skipped_ones : asked.left_out ≡ true) (path : List ℕ) (good : is_bad_path path ≡ false)
    (said : IsExplained Enters s path false x) where
  counted_said : IsCounted r path → IsSaidKept x
  counted_said has =
      let c = counted_found asked (walk_of s depth (top_job s) t) r report files path has in
      let p = place_by_walk s depth (top_job s) t _ c.found in
      let d = p.gives.0 in
      (entry_agrees Enters s x law t known p.place p.job p.leads c.file.path (counted c.file) p.gives.1 path
      (c.path_is ∙ ap (λ d. path_in d c.file.path) d) good said).1

  skipped_said : (reason : Reason) → IsSkipped r path reason → IsSaidSkipped reason x
  skipped_said reason has =
      let l = skipped_found asked (walk_of s depth (top_job s) t) r report skipped_ones path reason has in
      let p = place_by_walk s depth (top_job s) t _ l.found in
      let a = entry_agrees Enters s x law t known p.place p.job p.leads l.entry.path
      (skipped l.entry.kind l.entry.reason) p.gives.1 path (l.path_is ∙ ap (λ d. path_in d l.entry.path) p.gives.0) good said in
      subst (λ w. IsSaidSkipped w x) l.reason_is (said_skipped s a.0 l.entry.reason x a.1)

  taken_kept : IsSaidKept x → Contains (skipped_paths r.skipped.items) path → ⊥
  taken_kept taken has = let l = skipped_somehow r path has in not_both l.0 x (skipped_said l.0 l.1) taken

  -- a report agrees on the path with what is said of it
  pub agrees : length (segments_of path) ≤ depth → AgreesOn (IsEntryBy s (top_job s) t path) r path x
  agrees deep = record {
    counted = counted_said;
    skipped = skipped_said;
    told = λ kind entry.
        told Enters s whole x (top_job s) t known asked depth r report files skipped_ones path kind entry taken_kept
        (segments_of path) [] [] (top_job s) refl (omega (arith, deep)) path refl refl refl
        (subst (λ b. cond b (x ≡ said_of_none path) (IsSaidBelow Enters s x [] (top_job s) (segments_of path))) good said);
  }

-- where a count and an explanation are asked for alike, the one begins and leaves out as the other does
same_question : (Enters : Entering) (o : Options) (q : ExplainOptions) → AskAlike o q → (path : List ℕ) (x : Explanation)
    → SaysEntering q Enters path false x
    → IsExplained Enters (asked_by o).filters path false x
same_question Enters o q alike path x said = grind (arith, common_steps)

asks_whole : (o : Options) (q : ExplainOptions) → AskAlike o q → (asked_by o).filters.only ≡ None
asks_whole o q alike = ap (λ (w : FiltersModel). w.only) alike.filters ∙ alike.whole

-- so does the report by some answers
pub answers_explained_law : EntryLaw → AnswersExplainedLaw
answers_explained_law law t u o q r alike listings report path x good agree said =
    let s : FiltersModel = (asked_by o).filters in
    let depth : ℕ = o.max_dirs + length (segments_of path) in
    let whole : s.only ≡ None = asks_whole o q alike in
    agrees law (EntersBy t) s whole x t
    (known_by_tree s (top_of o) t refl listings) o.lists depth r (report depth (omega arith)) alike.files alike.left_out path good
    (said_by_other s whole false x t listings u path agree
    (same_question (EntersBy u) o q alike path x said)) (omega arith)

-- and the report of a walk of a tree that answers in one way
pub explained_law : EntryLaw → (lists : List ℕ → Listings) (gives : List ℕ → Contents) → ExplainedLaw lists gives
explained_law law lists gives one o q r alike walks path x good said =
    let s : FiltersModel = (asked_by o).filters in
    let depth : ℕ = o.max_dirs + length (segments_of path) in
    let by = by_answers lists gives o r walks in
    let a = agrees law (MayEnter lists gives) s (asks_whole o q alike) x by.answers
    (known_by_one lists gives one s (top_of o) by.answers by.listings by.given) o.lists depth r (by.report depth (omega arith))
    alike.files alike.left_out path good (same_question (MayEnter lists gives) o q alike path x said) (omega arith) in
    record {
      counted = a.counted;
      skipped = a.skipped;
      told = λ kind entry. a.told kind (entry_by_lists lists gives one s (top_of o) by.answers refl by.given path kind entry);
    }
