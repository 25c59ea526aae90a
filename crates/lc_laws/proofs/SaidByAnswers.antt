-- What may be said of a path is said by some answers that the tree may give: those of the directories on the way, one at each depth.
use Rattle.std.proofs.{lemmas.{Grind.common_steps, Bool.and_parts}, Common.{◌≡◌, ℕ, zero, suc, ◌+◌, Bool, true, false, cond, List, [], ◌∷◌}}
use Rattle.std.proofs.Common.{◌++◌, length, refl, sym, ◌∙◌, ap, subst, arith, Option, Some, None, Result, Ok, Err, length-append}
use Rattle.std.specs.List.{list_all, AllByRecursion}
use Rattle.lc_paths.specs.Explanations.Explained.{Explanation, below, cited, said_for, said_beside, kind_asked, is_directory, OnTheWay}
use Rattle.lc_paths.specs.Explanations.Explained.{said_of_none, OnEntering, IsSaid}
use Rattle.lc_paths.specs.Explanations.OpenDirs.{OpenDirModel, DirStack, MayEnter, kind_in}
use Rattle.lc_paths.specs.declared.explaining.explain_options.ExplainOptions.{ExplainOptions}
use Rattle.lc_paths.proofs.Explanations.PathSegments.{good_path}
use Rattle.lc_glob.specs.Path.{segments_of, is_good_name}
use Rattle.lc_level.specs.{Answers.{Answers, no_answers, Tree}, FaultLines.FaultLineModel, Job.JobModel, Level.{Reason, reason_for}}
use Rattle.lc_level.specs.{Level.child_job, Filters.FiltersModel}
use Rattle.lc_level.proofs.WellFormed.{IsGoodName, good_one}
use Rattle.lc_text.specs.PathLines.{is_bad_path}
use Rattle.lc_tree.specs.{Paths.names_of_path, Trees.{Listings, Contents}}
use Rattle.lc_walk.proofs.Places.{names_of_path-path_in}
use Rattle.lc_laws.specs.ByAnswers.{EntersBy, EntersGiven, top_asked, IsSaidByAnswers, SaidByAnswersLaw, SaysEntering}
use Rattle.lc_laws.proofs.{OneWay.{Entering, entered_listed}, SameWay.explained_on}

-- ---- answers by depth

-- those at each depth from the first on
abbrev pub Follows : Tree → ℕ → List Answers → Type 0
Follows u depth [] = Unit {0}
Follows u depth (a ∷ rest) = ((place : List (List ℕ)) → length place ≡ depth → u place ≡ a) × Follows u (suc depth) rest

abbrev answer_at : List Answers → ℕ → Answers
answer_at [] n = no_answers
answer_at (a ∷ rest) zero = a
answer_at (a ∷ rest) (suc n) = answer_at rest n

follows : (u : Tree) (rest : List Answers) (depth : ℕ)
    → ((place : List (List ℕ)) (n : ℕ) → length place ≡ depth + n → u place ≡ answer_at rest n) → Follows u depth rest
follows u [] depth at = tt
follows u (a ∷ rest) depth at =
    (λ place e. at place 0 (omega (arith, e)), follows u rest (suc depth) (λ place n e. at place (suc n) (omega (arith, e))))

-- a tree with some answers by depth
abbrev by_depth : List Answers → Tree
by_depth rest place = answer_at rest (length place)

by_depth_follows : (rest : List Answers) → Follows (by_depth rest) 0 rest
by_depth_follows rest = grind (arith, common_steps, follows)

-- ---- the names of a good path

good_names : (names : List (List ℕ)) → list_all is_good_name names ≡ true → AllByRecursion IsGoodName names
good_names [] good = tt
good_names (n ∷ names) good =
    let parts = and_parts (is_good_name n) (list_all is_good_name names) good in (good_one n parts.0, good_names names parts.1)

-- ---- down the path

module _ (lists : List ℕ → Listings) (gives : List ℕ → Contents) (s : FiltersModel) (as_dir : Bool)
    (x : Explanation) where
  abbrev Says : Entering → DirStack → OpenDirModel → List (List ℕ) → Type 0
  Says E stack here names = IsSaid E s stack here names as_dir x

  abbrev SaysBelow : Entering → DirStack → JobModel → List (List ℕ) → Type 0
  SaysBelow E stack j names = OnEntering E j x (λ here. Says E (stack ++ here ∷ []) here names)

  -- there are answers by which it is said
  record ByFollowing (depth : ℕ) (P : Tree → Type 0) : Type 0 where
    answers : List Answers
    so : (u : Tree) → Follows u depth answers → P u

  abbrev Found : List (List ℕ) → Type 0
  Found names =
      (stack : DirStack) (here : OpenDirModel) (depth : ℕ) → length (names_of_path here.job.path) ≡ depth
      → Says (MayEnter lists gives) stack here names → ByFollowing (suc depth) (λ u. Says (EntersGiven lists gives u) stack here names)

  entered_given : (u : Tree) (j : JobModel) (entered : Result OpenDirModel FaultLineModel) (enters : MayEnter lists gives j entered)
      → u (names_of_path j.path) ≡ enters.answers → EntersGiven lists gives u j entered
  entered_given u j entered enters is = grind (arith, common_steps)

  -- by the answers of a directory that is entered, and those below
  by_entering : (names : List (List ℕ)) → Found names → (stack : DirStack) (j : JobModel) (depth : ℕ)
      → length (names_of_path j.path) ≡ depth → SaysBelow (MayEnter lists gives) stack j names
      → ByFollowing depth (λ u. SaysBelow (EntersGiven lists gives u) stack j names)
  by_entering names rest stack j depth deep (Ok here, enters, said) =
      let l = entered_listed j enters.answers here enters.gives_it in
      let same : here.job.path ≡ j.path = ap (λ (k : JobModel). k.path) l.listed.is in
      let r = rest (stack ++ here ∷ []) here depth (ap (λ p. length (names_of_path p)) same ∙ deep) said in
      record {
        answers = enters.answers ∷ r.answers;
        so = λ u f. (Ok here, entered_given u j (Ok here) enters (f.0 (names_of_path j.path) deep), r.so u f.1);
      }
  by_entering names rest stack j depth deep (Err fault, enters, said) = record {
    answers = enters.answers ∷ [];
    so = λ u f. (Err fault, entered_given u j (Err fault) enters (f.0 (names_of_path j.path) deep), said);
  }

  -- or by none, where none is entered
  on_way : (reason : Option Reason) (is_there : Bool) (Skipped : Reason → Type 0) (Into : Type 0) (Onto : Tree → Type 0) (Beside : Type 0)
      (depth : ℕ) → (Into → ByFollowing depth Onto) → OnTheWay reason is_there Skipped Into Beside
      → ByFollowing depth (λ u. OnTheWay reason is_there Skipped (Onto u) Beside)
  on_way (Some r) is_there Skipped Into Onto Beside depth found a = record { answers = []; so = λ u f. a }
  on_way None true Skipped Into Onto Beside depth found a = let r = found a in record { answers = r.answers; so = r.so }
  on_way None false Skipped Into Onto Beside depth found a = record { answers = []; so = λ u f. a }

  found_on : (name next : List ℕ) (names : List (List ℕ)) → IsGoodName name → Found (next ∷ names) → Found (name ∷ next ∷ names)
  found_on name next names good rest stack here depth deep =
      on_way (reason_for s here.job name (kind_asked true (kind_in here.entries name))) (is_directory (kind_in here.entries name))
      (λ reason. x ≡ said_for (cited s stack) below reason)
      (SaysBelow (MayEnter lists gives) stack (child_job here.job name) (next ∷ names))
      (λ u. SaysBelow (EntersGiven lists gives u) stack (child_job here.job name) (next ∷ names))
      (x ≡ said_beside s stack (child_job here.job name) (next ∷ names) as_dir) (suc depth)
      (by_entering (next ∷ names) rest stack (child_job here.job name) (suc depth)
      (ap length (names_of_path-path_in here.job.path name good)
      ∙ omega (arith, length-append (names_of_path here.job.path) (name ∷ []), deep)))

  found : (names : List (List ℕ)) → AllByRecursion IsGoodName names → Found names
  found [] good = λ stack here depth deep said. absurd said
  found (name ∷ []) good = λ stack here depth deep said. record { answers = []; so = λ u f. said }
  found (name ∷ next ∷ names) good = found_on name next names good.0 (found (next ∷ names) good.1)

-- ---- from the top

module _ (lists : List ℕ → Listings) (gives : List ℕ → Contents) (q : ExplainOptions) (path : List ℕ) (as_dir : Bool) (x : Explanation)
  where
    abbrev FromTop : Entering → Type 0
    FromTop E = OnEntering E (top_asked q) x (λ here. IsSaid E q.filters.now (here ∷ []) here (segments_of path) as_dir x)

    abbrev FromTopOr : Entering → Bool → Type 0
    FromTopOr E b = cond b (x ≡ said_of_none path) (FromTop E)

    -- what is said by entering with these answers is said by them
    by_given : (u : Tree) → SaysEntering q (EntersGiven lists gives u) path as_dir x → IsSaidByAnswers q lists gives path as_dir x
    by_given u given = record {
      answers = u;
      says = explained_on q.filters.now as_dir x (EntersGiven lists gives u) (EntersBy u) (λ k names. Unit {0})
          (λ k name names holds entered e. e.enters) (λ k here name names holds enters there none. tt) path (λ name names are. tt) given;
      given = given;
    }

    by_path : (b : Bool) → is_bad_path path ≡ b → FromTopOr (MayEnter lists gives) b → IsSaidByAnswers q lists gives path as_dir x
    by_path true is said = by_given (by_depth []) (subst (FromTopOr (EntersGiven lists gives (by_depth []))) (sym is) said)
    by_path false is said =
        let good = good_names (segments_of path) (good_path path is) in
        let r = by_entering lists gives q.filters.now as_dir x (segments_of path)
        (found lists gives q.filters.now as_dir x (segments_of path) good) [] (top_asked q) 0 refl said in
        let u : Tree = by_depth r.answers in
        by_given u (subst (FromTopOr (EntersGiven lists gives u)) (sym is) (r.so u (by_depth_follows r.answers)))

-- so is all that may be said
pub said_by_answers : (lists : List ℕ → Listings) (gives : List ℕ → Contents) → SaidByAnswersLaw lists gives
said_by_answers lists gives q path as_dir x = by_path lists gives q path as_dir x (is_bad_path path) refl
