-- What is said of a path, by what is said below a directory on the way to it.
use Rattle.std.proofs.Common.{refl, ◌≡◌, ℕ, Bool, true, false, cond, List, [], ◌∷◌, ◌++◌, Option, Some, None, Result, Ok, sym, ◌∙◌, ap}
use Rattle.std.proofs.Common.{subst, append_assoc, append-nil}
use Rattle.lc_glob.specs.{Bytes.slash, Path.{path_in, segments_of}}
use Rattle.lc_glob.proofs.Naming.{has_first}
use Rattle.lc_level.specs.{FaultLines.FaultLineModel, Job.JobModel, Level.{Reason, reason_for, child_job}, Filters.FiltersModel}
use Rattle.lc_level.specs.TopJob.{top_job}
use Rattle.lc_text.specs.PathLines.{is_bad_path}
use Rattle.lc_paths.specs.Explanations.Explained.{Explanation, below, cited, said_for, said_beside, said_of_none, kind_asked, is_directory}
use Rattle.lc_paths.specs.Explanations.Explained.{OnTheWay, OnEntering, IsSaid, IsExplained}
use Rattle.lc_paths.specs.Explanations.{OpenDirs.{OpenDirModel, DirStack, kind_in}, DirStacks.{Reaches, IsStackBelow}}
use Rattle.lc_paths.proofs.Explanations.PathSegments.{below_child}

module _ (Enters : JobModel → Result OpenDirModel FaultLineModel → Type 0) (f : FiltersModel) where
  module _ (stack : DirStack) (here : OpenDirModel) (rest name others : List ℕ) (as_dir : Bool) (x : Explanation)
      (cut : segments_of rest ≡ name ∷ segments_of others) where
    abbrev reason : Option Reason
    reason = reason_for f here.job name (kind_asked true (kind_in here.entries name))

    abbrev is_there : Bool
    is_there = is_directory (kind_in here.entries name)

    abbrev Below : List (List ℕ) → Type 0
    Below names = OnEntering Enters (child_job here.job name) x
        (λ child. IsSaid Enters f (stack ++ child ∷ []) child names as_dir x)

    abbrev Step : Option Reason → Bool → List (List ℕ) → Type 0
    Step o b names =
        OnTheWay o b (λ r. x ≡ said_for (cited f stack) below r) (Below names)
        (x ≡ said_beside f stack (child_job here.job name) names as_dir)

    at_name : (o : Option Reason) (b : Bool) → reason ≡ o → is_there ≡ b → Step o b (segments_of others)
        → IsSaid Enters f stack here (segments_of rest) as_dir x
    at_name o b is at step =
        let h = has_first others in
        subst (λ (l : List (List ℕ)). IsSaid Enters f stack here l as_dir x)
        (sym (cut ∙ ap (λ (l : List (List ℕ)). name ∷ l) h.are))
        (subst (Step reason is_there) h.are (subst (λ (o : Option Reason). Step o is_there (segments_of others)) (sym is)
        (subst (λ (b : Bool). Step o b (segments_of others)) (sym at) step)))

    -- by the reason to leave out a name before it
    pub skipped_said : (r : Reason) → reason ≡ Some r → x ≡ said_for (cited f stack) below r
        → IsSaid Enters f stack here (segments_of rest) as_dir x
    skipped_said r is said = at_name (Some r) is_there is refl said

    -- below what is no directory
    pub beside_said : reason ≡ None → is_there ≡ false
        → x ≡ said_beside f stack (child_job here.job name) (segments_of others) as_dir
        → IsSaid Enters f stack here (segments_of rest) as_dir x
    beside_said is at said = at_name None false is at said

    -- below a directory that the walk goes into
    pub into_said : reason ≡ None → is_there ≡ true → Below (segments_of others)
        → IsSaid Enters f stack here (segments_of rest) as_dir x
    into_said is at said = at_name None true is at said

  -- the top reaches itself
  pub top_reaches : (here : OpenDirModel) → here.job.path ≡ [] → Enters (top_job f) (Ok here) → Reaches Enters f (here ∷ []) here
  top_reaches here at entered rest as_dir x said = (
    Ok here,
    entered,
    subst (λ (p : List ℕ). IsSaid Enters f (here ∷ []) here (segments_of (path_in p rest)) as_dir x)
        (sym at) said,
  )

  -- what is said below a directory that is reached is said of the path
  pub reached : (stack : DirStack) (here : OpenDirModel) (path rest : List ℕ) (as_dir : Bool) (x : Explanation)
      → Reaches Enters f stack here → path ≡ path_in here.job.path rest → is_bad_path path ≡ false
      → IsSaid Enters f stack here (segments_of rest) as_dir x → IsExplained Enters f path as_dir x
  reached stack here path rest as_dir x reaches is good said =
      let OnPath : List ℕ → Type 0 =
      λ p. OnEntering Enters (top_job f) x (λ first. IsSaid Enters f (first ∷ []) first (segments_of p) as_dir x) in
      subst (λ (b : Bool). cond b (x ≡ said_of_none path) (OnPath path)) (sym good) (subst OnPath (sym is) (reaches rest as_dir x said))

  -- a directory that the walk goes into from one that is reached is reached
  pub child_reached : (stack : DirStack) (here child : OpenDirModel) (name : List ℕ) → Reaches Enters f stack here
      → ((left : List ℕ) → segments_of (name ++ slash ∷ left) ≡ name ∷ segments_of left) → (name ≡ [] → ⊥)
      → reason_for f here.job name (kind_asked true (kind_in here.entries name)) ≡ None
      → is_directory (kind_in here.entries name) ≡ true → child.job.path ≡ path_in here.job.path name
      → Enters (child_job here.job name) (Ok child)
      → Reaches Enters f (stack ++ child ∷ []) child
  child_reached stack here child name reaches cuts some is at path entered rest as_dir x said =
      let OnPath : List ℕ → Type 0 =
      λ p. OnEntering Enters (top_job f) x (λ first. IsSaid Enters f (first ∷ []) first (segments_of p) as_dir x) in
      let same : path_in here.job.path (name ++ slash ∷ rest) ≡ path_in child.job.path rest =
      below_child here.job.path name rest some ∙ ap (λ (d : List ℕ). path_in d rest) (sym path) in
      subst OnPath same (reaches (name ++ slash ∷ rest) as_dir x
      (into_said stack here (name ++ slash ∷ rest) name rest as_dir x (cuts rest) is at (Ok child, entered, said)))

  -- ---- ways

  -- a way with one directory more
  pub stack_longer : (above stack : DirStack) (here : OpenDirModel) → IsStackBelow Enters f above stack
      → Reaches Enters f (above ++ stack ++ here ∷ []) here → IsStackBelow Enters f above (stack ++ here ∷ [])
  stack_longer above [] here is reaches =
      (subst (λ (l : DirStack). Reaches Enters f (l ++ here ∷ []) here) (append-nil above) reaches, tt)
  stack_longer above (w ∷ ws) here is reaches = (
    is.0,
    stack_longer (above ++ w ∷ []) ws here is.1
        (subst (λ (l : DirStack). Reaches Enters f (l ++ here ∷ []) here) (sym (append_assoc above (w ∷ []) ws)) reaches),
  )

  -- a way that was cut
  pub stack_cut : (above stack gone : DirStack) → IsStackBelow Enters f above (stack ++ gone)
      → IsStackBelow Enters f above stack
  stack_cut above [] gone is = tt
  stack_cut above (w ∷ ws) gone is = (is.0, stack_cut (above ++ w ∷ []) ws gone is.1)

  -- its last directory is reached
  pub stack_end : (above stack : DirStack) (here : OpenDirModel) → IsStackBelow Enters f above (stack ++ here ∷ [])
      → Reaches Enters f (above ++ stack ++ here ∷ []) here
  stack_end above [] here is =
      subst (λ (l : DirStack). Reaches Enters f (l ++ here ∷ []) here) (sym (append-nil above)) is.0
  stack_end above (w ∷ ws) here is =
      subst (λ (l : DirStack). Reaches Enters f (l ++ here ∷ []) here) (append_assoc above (w ∷ []) ws)
      (stack_end (above ++ w ∷ []) ws here is.1)
