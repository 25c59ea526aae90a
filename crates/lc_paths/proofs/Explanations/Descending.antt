-- What is said of a path, by what the last directory of the way says.
use Rattle.std.proofs.Common.{◌≡◌, ℕ, ◌-◌, Bool, false, List, [], ◌∷◌, ◌++◌, Option, Some, None, Result, Ok, Err, length, slice_get, refl}
use Rattle.std.proofs.Common.{sym, ◌∙◌, ap, subst}
use Rattle.lc_glob.specs.Path.{path_in, segments_of, is_good_path}
use Rattle.lc_glob.proofs.Naming.{has_first}
use Rattle.lc_level.specs.{FaultLines.FaultLineModel, Job.JobModel, Level.{Reason, reason_for, child_job}, Filters.FiltersModel}
use Rattle.lc_level.specs.TopJob.{top_job}
use Rattle.lc_text.specs.PathLines.{is_bad_path}
use Rattle.lc_tree.specs.declared.entry.Kind.TheVariants.{Dir}
use Rattle.lc_paths.specs.Explanations.Explained.{IsSaid, Explanation, faulted, below, cited, said_for, said_above, said_beside}
use Rattle.lc_paths.specs.Explanations.Explained.{IsExplained}
use Rattle.lc_paths.specs.Explanations.OpenDirs.{OpenDirModel, DirStack, DirStacks, stack_at}
use Rattle.lc_paths.specs.Explanations.DirStacks.{AreStacks, Goes, IsCutAt, GoesInto, StandsBelow, Reaches, IsStack}
use Rattle.lc_paths.proofs.Explanations.PathSegments.{name_first, some_name, good_path, stands_below}
use Rattle.lc_paths.proofs.Explanations.Reaching.{into_said, reached, top_reaches, child_reached, stack_longer, stack_end}
use Rattle.lc_paths.proofs.Explanations.{StackCaching.stacks_kept, StackEnds.{last_is, left_of_last}}

-- ---- below what is no directory

module _ (f : FiltersModel) (stack : DirStack) (j : JobModel) (rest name others : List ℕ) (as_dir : Bool)
    (at : IsCutAt rest name others) where
  beside_step : said_beside f stack j (segments_of rest) as_dir
      ≡ said_above (cited f stack) (reason_for f j name Dir)
      (said_beside f stack (child_job j name) (segments_of others) as_dir)
  beside_step =
      let h = has_first others in
      ap (λ (l : List (List ℕ)). said_beside f stack j l as_dir) (at.cut ∙ ap (λ (l : List (List ℕ)). name ∷ l) h.are)
      ∙ ap (λ (l : List (List ℕ)). said_above (cited f stack) (reason_for f j name Dir) (said_beside f stack
      (child_job j name) l as_dir))
      (sym h.are)

  -- a name there is left out
  pub beside_left : (r : Reason) → reason_for f j name Dir ≡ Some r
      → said_beside f stack j (segments_of rest) as_dir ≡ said_for (cited f stack) below r
  beside_left r is =
      beside_step
      ∙ ap (λ (o : Option Reason). said_above (cited f stack) o (said_beside f stack (child_job j name)
      (segments_of others) as_dir)) is

  -- or it is not
  pub beside_on : reason_for f j name Dir ≡ None
      → said_beside f stack j (segments_of rest) as_dir
      ≡ said_beside f stack (child_job j name) (segments_of others) as_dir
  beside_on is =
      beside_step
      ∙ ap (λ (o : Option Reason). said_above (cited f stack) o (said_beside f stack (child_job j name)
      (segments_of others) as_dir)) is

-- ---- below the last directory of a way

module _ (Enters : JobModel → Result OpenDirModel FaultLineModel → Type 0) (f : FiltersModel) where
  -- the last directory of a way, and what is left of a path below it
  pub record IsLast (stack : DirStack) (path rest : List ℕ) (here : OpenDirModel) : Type 0 where
    pub reaches : Reaches Enters f stack here
    pub left : path ≡ path_in here.job.path rest

  reaches_end : (stack above : DirStack) (here : OpenDirModel) → IsStack Enters f stack → stack ≡ above ++ here ∷ []
      → Reaches Enters f stack here
  reaches_end stack above here is end =
      subst (λ (l : DirStack). Reaches Enters f l here) (sym end)
      (stack_end Enters f [] above here (subst (λ (l : DirStack). IsStack Enters f l) end is))

  -- the last element of a way is where what is left of the path stands
  pub at_last : (stack : DirStack) (path rest : List ℕ) (here : OpenDirModel) → IsStack Enters f stack
      → StandsBelow stack path rest
      → slice_get stack (length stack - 1) ≡ Some here → IsLast stack path rest here
  at_last stack path rest here is stands last =
      let same : here ≡ stands.here = last_is stack stands.above stands.here here stands.is last in
      record {
        reaches = subst (λ (h : OpenDirModel). Reaches Enters f stack h) (sym same)
            (reaches_end stack stands.above stands.here is stands.is);
        left = left_of_last stack here path rest last stands;
      }

  module _ (stack : DirStack) (path rest : List ℕ) (here : OpenDirModel) (last : IsLast stack path rest here)
      (good : is_bad_path path ≡ false) where
    -- what is said of what is left below the last directory explains the path
    pub step_explained : (as_dir : Bool) (x : Explanation) → IsSaid Enters f stack here (segments_of rest) as_dir x
        → IsExplained Enters f path as_dir x
    step_explained as_dir x said = reached Enters f stack here path rest as_dir x last.reaches last.left good said

    module _ (job : JobModel) (others : List ℕ) (into : GoesInto f here rest job others) where
      -- a path below a directory that can't be entered is explained by the fault
      pub fault_explained : (as_dir : Bool) (x : Explanation) (fault : FaultLineModel) → Enters job (Err fault) → x ≡ faulted fault
          → IsExplained Enters f path as_dir x
      fault_explained as_dir x fault entered said =
          step_explained as_dir x (into_said Enters f stack here rest into.name others as_dir x into.at.cut into.none
          into.is_there (Err fault, subst (λ (j : JobModel). Enters j (Err fault)) into.is entered, said))

      -- the way goes on by a directory that was entered
      pub stack_on : (child : OpenDirModel) → IsStack Enters f stack → child.job.path ≡ job.path → Enters job (Ok child)
          → IsStack Enters f (stack ++ child ∷ []) × StandsBelow (stack ++ child ∷ []) path others
      stack_on child is same entered =
          let name = into.name in
          let child_path : child.job.path ≡ path_in here.job.path name = same ∙ ap (λ (j : JobModel). j.path) into.is in (
            stack_longer Enters f [] stack child is
                (child_reached Enters f stack here child name last.reaches (name_first here.job.path rest name others into.at)
                (some_name here.job.path rest name others into.at (sym (ap is_good_path last.left) ∙ good_path path good)) into.none
                into.is_there child_path (subst (λ (j : JobModel). Enters j (Ok child)) into.is entered)),
            record {
              above = stack;
              here = child;
              is = refl;
              left = stands_below path here.job.path rest name others last.left into.at good
                  ∙ ap (λ (d : List ℕ). path_in d others) (sym child_path);
            },
          )

  -- the way to the top itself, which was entered and kept
  pub top_kept : (top : JobModel) → top ≡ top_job f → ((here : OpenDirModel) → Enters (top_job f) (Ok here) → here.job.path ≡ [])
      → (old new : DirStacks) (at : ℕ) (path : List ℕ) → AreStacks Enters f old → Goes Enters top [] old new (Ok (Ok at))
      → AreStacks Enters f new × StandsBelow (stack_at new at) path path
  top_kept top is at_top old new at path are goes =
      let entered = subst (λ j. Goes Enters j [] old new (Ok (Ok at))) is goes in
      let here = entered.0 in
      let empty : here.job.path ≡ [] = at_top here entered.1 in (
        stacks_kept Enters f old new (here ∷ []) at are (top_reaches Enters f here empty entered.1, tt) entered.2,
        record {
          above = [];
          here = here;
          is = entered.2.is;
          left = sym (ap (λ (d : List ℕ). path_in d path) empty);
        },
      )
