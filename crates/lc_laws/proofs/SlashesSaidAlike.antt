-- What is said of a directory's path, with and without a slash at its end.
use Rattle.std.proofs.Common.{arith, ◌≡◌, ℕ, Bool, true, false, cond, List, [], ◌∷◌, ◌++◌, sym, ◌∙◌, ap, subst, Option, Some, None, Ok}
use Rattle.std.proofs.{Common.Err, lemmas.Grind.common_steps}
use Rattle.std.specs.List.{Contains}
use Rattle.lc_paths.specs.Explanations.Explained.{Explanation, below, cited, said_for, said_of, said_beside, kind_asked, is_directory}
use Rattle.lc_paths.specs.Explanations.Explained.{OnTheWay, said_of_none, OnEntering, IsSaid, IsExplained}
use Rattle.lc_paths.specs.Explanations.OpenDirs.{OpenDirModel, DirStack, MayEnter, kind_in}
use Rattle.lc_glob.specs.Path.{path_in, segments_of}
use Rattle.lc_level.specs.{Answers.{entries_of, Items}, Job.JobModel, Level.{Reason, reason_for, child_job}, OneAnswer.GivesOne}
use Rattle.lc_level.specs.{Filters.FiltersModel, TopJob.top_job, TreeAnswers.MayList}
use Rattle.lc_text.specs.PathLines.{is_bad_path}
use Rattle.lc_tree.specs.{Listing.EntryModel, Trees.{Listings, Contents}, declared.entry.Kind.{Kind, TheVariants.Dir}}
use Rattle.lc_walk.proofs.Levels.{well_formed_items}
use Rattle.lc_laws.specs.{Entries.{HasListed, LeadDown}, SlashAtEnd.SlashLaw}
use Rattle.lc_laws.proofs.{Items.{named_item, named_kind}, OneWay.{Entering, entered_listed}}

-- what the walk goes into is said alike, where it is in each case
on_a_directory : (reason : Option Reason) (is_there : Bool) (Skipped : Reason → Type 0) (Into Onto Beside Near : Type 0) → is_there ≡ true
    → (reason ≡ None → Into → Onto) → OnTheWay reason is_there Skipped Into Beside → OnTheWay reason is_there Skipped Onto Near
on_a_directory reason is_there Skipped Into Onto Beside Near e on a = grind (arith, common_steps)

-- each of these names is that of a directory, in each directory on the way that is entered
abbrev pub AreDirectories : Entering → FiltersModel → JobModel → List (List ℕ) → Type 0
AreDirectories Enters s j [] = Unit {0}
AreDirectories Enters s j (name ∷ names) =
    (here : OpenDirModel) → Enters j (Ok here)
    → (kind_in here.entries name ≡ Some Dir) × (reason_for s here.job name (kind_asked true (kind_in here.entries name)) ≡ None
    → AreDirectories Enters s (child_job here.job name) names)

module _ (Enters : Entering) (s : FiltersModel) (x : Explanation) where
  abbrev IsSaidBelow : Bool → DirStack → JobModel → List (List ℕ) → Type 0
  IsSaidBelow as_dir stack j names = OnEntering Enters j x (λ here. IsSaid Enters s (stack ++ here ∷ []) here names as_dir x)

  said_alike : (names : List (List ℕ)) (stack : DirStack) (j : JobModel) → AreDirectories Enters s j names
      → IsSaidBelow true stack j names → IsSaidBelow false stack j names
  said_alike [] stack j are said = said
  said_alike (name ∷ names) stack j are (Err fault, enters, said) = (Err fault, enters, said)
  said_alike (name ∷ []) stack j are (Ok here, enters, said) =
      let there = (are here enters).0 in (
        Ok here,
        enters,
        said ∙ ap (λ (o : Option Kind). said_of s (stack ++ here ∷ []) here.job name (kind_asked true o)) there
            ∙ sym (ap (λ (o : Option Kind). said_of s (stack ++ here ∷ []) here.job name (kind_asked false o)) there),
      )
  said_alike (name ∷ next ∷ names) stack j are (Ok here, enters, said) =
      let there = are here enters in (
        Ok here,
        enters,
        on_a_directory (reason_for s here.job name (kind_asked true (kind_in here.entries name))) (is_directory (kind_in here.entries name))
            (λ r. x ≡ said_for (cited s (stack ++ here ∷ [])) below r)
            (IsSaidBelow true (stack ++ here ∷ []) (child_job here.job name) (next ∷ names))
            (IsSaidBelow false (stack ++ here ∷ []) (child_job here.job name) (next ∷ names))
            (x ≡ said_beside s (stack ++ here ∷ []) (child_job here.job name) (next ∷ names) true)
            (x ≡ said_beside s (stack ++ here ∷ []) (child_job here.job name) (next ∷ names) false)
            (ap is_directory there.0)
            (λ none. said_alike (next ∷ names) (stack ++ here ∷ []) (child_job here.job name) (there.1 none)) said,
      )

  pub explained_alike : (path : List ℕ) → AreDirectories Enters s (top_job s) (segments_of path) → IsExplained Enters s path true x
      → IsExplained Enters s path false x
  explained_alike path are = at (is_bad_path path)
    where
      at : (b : Bool) → cond b (x ≡ said_of_none path) (IsSaidBelow true [] (top_job s) (segments_of path))
          → cond b (x ≡ said_of_none path) (IsSaidBelow false [] (top_job s) (segments_of path))
      at true e = e
      at false said = said_alike (segments_of path) [] (top_job s) are said

module _ (lists : List ℕ → Listings) (gives : List ℕ → Contents) (one : GivesOne lists gives) where
  -- what is listed there is found in the directory that was entered
  listed_kind : (j : JobModel) (here : OpenDirModel) (name : List ℕ) (kind : Kind) → MayEnter lists gives j (Ok here)
      → HasListed lists j.path name kind → (kind_in here.entries name ≡ Some kind) × (here.job.path ≡ j.path)
  listed_kind j here name kind enters (entries, may, has) =
      let l = entered_listed j enters.answers here enters.gives_it in
      let lists_items = (subst (λ (o : Items). MayList lists gives j.path o) l.listed.here enters.may.here).0 in
      let same : Ok entries ≡ Ok (entries_of l.items) = one.listing j.path (Ok entries) (Ok (entries_of l.items)) may lists_items in
      let there : Contains (entries_of l.items) (record { name = name; kind = kind }) =
      subst (λ es. Contains es (record { name = name; kind = kind })) (cc same) has in
      let spread = well_formed_items enters.answers enters.well_formed l.items l.listed.here in (
        ap (λ (es : List EntryModel). kind_in es name) l.entries
            ∙ named_kind l.items name kind spread (named_item l.items name kind there),
        ap (λ (i : JobModel). i.path) l.listed.is,
      )

  down : (s : FiltersModel) (names : List (List ℕ)) (j : JobModel) → LeadDown lists j.path names Dir
      → AreDirectories (MayEnter lists gives) s j names
  down s [] j leads = tt
  down s (name ∷ []) j leads = λ here enters. ((listed_kind j here name Dir enters leads).0, λ none. tt)
  down s (name ∷ next ∷ names) j leads = λ here enters.
      let there = listed_kind j here name Dir enters leads.0 in
      let lower = subst (λ d. LeadDown lists (path_in d name) (next ∷ names) Dir) (sym there.1) leads.1 in
      (there.0, λ none. down s (next ∷ names) (child_job here.job name) lower)

-- so is what may be said
pub slash_law : (lists : List ℕ → Listings) (gives : List ℕ → Contents) → SlashLaw lists gives
slash_law lists gives = grind (arith, common_steps, explained_alike, down)
