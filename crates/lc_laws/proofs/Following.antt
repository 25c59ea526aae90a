-- What is said of an entry to which names lead.
use Rattle.std.proofs.Common.{arith, ◌≡◌, ℕ, Bool, true, false, cond, List, [], ◌∷◌, ◌++◌, refl, sym, ◌∙◌, ap, subst, Option, Some, None}
use Rattle.std.proofs.{Common.Result, lemmas.Grind.common_steps}
use Rattle.std.specs.Option.{is_none}
use Rattle.lc_paths.specs.Explanations.Explained.{Explanation, below, cited, said_for, said_of, said_beside, kind_asked, is_directory}
use Rattle.lc_paths.specs.Explanations.Explained.{said_of_none, OnTheWay, OnEntering, IsSaid, IsExplained}
use Rattle.lc_paths.specs.{Explanations.{Laws.{Agrees, EntryLaw}, OpenDirs.{OpenDirModel, DirStack, open_dir, kind_in}}}
use Rattle.lc_paths.proofs.Explanations.PathSegments.{names_below}
use Rattle.lc_glob.specs.Path.{path_in, segments_of}
use Rattle.lc_level.specs.{Answers.{Item, directory_item, name_of, entry_of, entries_of, Answers, Tree}, FaultLines.FaultLineModel}
use Rattle.lc_level.specs.{Job.JobModel, Level.{Reason, Fate, fate_of, reason_of, reason_for, child_job}, Filters.FiltersModel}
use Rattle.lc_level.specs.TopJob.{top_job}
use Rattle.lc_level.proofs.WellFormed.{Spread}
use Rattle.lc_text.specs.PathLines.{is_bad_path}
use Rattle.lc_tree.specs.{Listing.EntryModel, declared.entry.Kind.{Kind, TheVariants.Dir}}
use Rattle.lc_walk.specs.FoundAt.{IsListed, LeadsTo, HasEntry}
use Rattle.lc_walk.proofs.{Elements.In, Levels.well_formed_items}
use Rattle.lc_laws.proofs.OneWay.{listed_entered, kind_found, good_name, one_segment, place_names, Entering, IsKnown, known_below}
use Rattle.lc_laws.proofs.{OneWay.known_listings, TakingPart.in_part}

-- what is none has no reason
pub none_is : {A : Type 0} (o : Option A) → is_none o ≡ true → o ≡ None
none_is o e = grind (arith, common_steps)

-- what is asked about with no slash at its end is asked about as what it is
pub asked_as_it_is : (kind : Kind) → kind_asked false (Some kind) ≡ kind
asked_as_it_is kind = grind (arith, common_steps)

-- a directory that nothing leaves out is gone into
pub went_into : (reason : Option Reason) (is_there : Bool) (Skipped : Reason → Type 0) (Into Beside : Type 0) → reason ≡ None
    → is_there ≡ true → OnTheWay reason is_there Skipped Into Beside → Into
went_into reason is_there Skipped Into Beside a b stack = grind (arith, common_steps)

some_end : (place : List (List ℕ)) (name : List ℕ) → place ++ name ∷ [] ≡ [] → ⊥
some_end place name e = grind (arith, common_steps)

module _ (Enters : Entering) (s : FiltersModel) (x : Explanation) where
  -- so it is said of names below a directory that is entered at the end of a way
  abbrev pub IsSaidBelow : DirStack → JobModel → List (List ℕ) → Type 0
  IsSaidBelow stack j names = OnEntering Enters j x (λ here. IsSaid Enters s (stack ++ here ∷ []) here names false x)

  -- the directory that was entered
  pub record IsSaidIn (stack : DirStack) (items : List Item) (inside : JobModel) (names : List (List ℕ)) : Type 0 where
    pub here : OpenDirModel
    pub job : here.job ≡ inside
    pub entries : here.entries ≡ entries_of items
    pub says : IsSaid Enters s (stack ++ here ∷ []) here names false x

  -- a listed directory is entered, and says it
  pub said_in : (stack : DirStack) (j : JobModel) (a : Answers) (items : List Item) (inside : JobModel) (names : List (List ℕ))
      → ((entered : Result OpenDirModel FaultLineModel) → Enters j entered → entered ≡ open_dir j a) → IsListed j a items inside
      → IsSaidBelow stack j names → IsSaidIn stack items inside names
  said_in stack j a items inside names known listed so = grind (arith, common_steps, listed_entered)

  -- a name before others
  pub on_the_way : (stack : DirStack) (here : OpenDirModel) (name : List ℕ) (names : List (List ℕ)) → (names ≡ [] → ⊥)
      → IsSaid Enters s stack here (name ∷ names) false x →
      OnTheWay (reason_for s here.job name (kind_asked true (kind_in here.entries name))) (is_directory (kind_in here.entries name))
      (λ reason. x ≡ said_for (cited s stack) below reason) (IsSaidBelow stack (child_job here.job name) names)
      (x ≡ said_beside s stack (child_job here.job name) names false)
  on_the_way stack here name names some said = grind (arith, common_steps)

  -- what is said of a name in a directory of these items
  pub record IsSaidOf (items : List Item) (inside : JobModel) (name : List ℕ) : Type 0 where
    pub stack : DirStack
    pub is : x ≡ said_of s stack inside name (kind_asked false (kind_in (entries_of items) name))

  -- what is said at the end of a path is said of its last name
  pub said_at_end : (stack : DirStack) (items : List Item) (inside : JobModel) (name : List ℕ)
      → IsSaidIn stack items inside (name ∷ []) → IsSaidOf items inside name
  said_at_end stack items inside name a = grind (arith, common_steps)

  -- what is said of names that the walk goes down is said at their end
  followed : (place : List (List ℕ)) (stack : DirStack) (j k : JobModel) (t : Tree) (items : List Item) (inside : JobModel)
      (name : List ℕ) → IsKnown Enters s j t → LeadsTo s j t place k → IsListed k (t place) items inside
      → IsSaidBelow stack j (place ++ name ∷ []) → IsSaidOf items inside name
  followed [] stack j k t items inside name known leads listed said =
      said_at_end stack items inside name (said_in stack j (t []) items inside (name ∷ []) (known [] j refl).0
      (subst (λ (i : JobModel). IsListed i (t []) items inside) (sym leads) listed) said)
  followed (n ∷ place) stack j k t items inside name known (within, leaves, leads) listed said =
      let a = said_in stack j (t []) leaves.items within (n ∷ place ++ name ∷ []) (known [] j refl).0 leaves.listed said in
      let spread : Spread leaves.items = well_formed_items (t []) (known [] j refl).1 leaves.items leaves.listed.here in
      let kind : kind_in a.here.entries n ≡ Some Dir =
      ap (λ (es : List EntryModel). kind_in es n) a.entries
      ∙ kind_found leaves.items spread (directory_item n) (in_part s j.path (directory_item n) leaves.items leaves.has) in
      let none : reason_for s a.here.job n (kind_asked true (kind_in a.here.entries n)) ≡ None =
      ap (λ (o : Option Kind). reason_for s a.here.job n (kind_asked true o)) kind
      ∙ ap (λ (i : JobModel). reason_of s i n true) a.job
      ∙ none_is (reason_of s within n true) leaves.taken in
      let into : IsSaidBelow (stack ++ a.here ∷ []) (child_job a.here.job n) (place ++ name ∷ []) =
      went_into _ _ _ _ _ none (ap is_directory kind)
      (on_the_way (stack ++ a.here ∷ []) a.here n (place ++ name ∷ []) (some_end place name) a.says) in
      followed place (stack ++ a.here ∷ []) (child_job within n) k (λ p. t (n ∷ p)) items inside name
      (known_below Enters s j t n within known leaves) leads listed
      (subst (λ (i : JobModel). IsSaidBelow (stack ++ a.here ∷ []) (child_job i n) (place ++ name ∷ [])) a.job into)

  -- so what is said of an entry agrees with its fate
  pub entry_agrees : EntryLaw → (t : Tree) → IsKnown Enters s (top_job s) t → (place : List (List ℕ))
      (k : JobModel) → LeadsTo s (top_job s) t place k → (name : List ℕ) (fate : Fate) → HasEntry s k (t place) name fate → (path : List ℕ)
      → path ≡ path_in k.path name → is_bad_path path ≡ false → IsExplained Enters s path false x
      → (stack : DirStack) × Agrees (cited s stack) fate x
  entry_agrees law t known place k leads name fate h path path_is good said =
      let spread : Spread h.items = well_formed_items (t place) (known place k leads).1 h.items h.listed.here in
      let item : In h.item h.items = in_part s k.path h.item h.items h.has in
      let named : segments_of name ≡ name ∷ [] =
      subst (λ n. segments_of n ≡ n ∷ []) h.named (one_segment (name_of h.item) (good_name h.items spread h.item item)) in
      let names : segments_of path ≡ place ++ name ∷ [] =
      ap segments_of path_is ∙ names_below k.path name
      ∙ ap (λ l. l ++ segments_of name) (place_names s place (top_job s) k t (known_listings Enters s (top_job s) t known) leads)
      ∙ ap (λ l. place ++ l) named in
      let below_top : IsSaidBelow [] (top_job s) (segments_of path) =
      subst (λ b. cond b (x ≡ said_of_none path) (IsSaidBelow [] (top_job s) (segments_of path))) good said in
      let at = followed place [] (top_job s) k t h.items h.inside name known leads h.listed
      (subst (IsSaidBelow [] (top_job s)) names below_top) in
      let kind : kind_in (entries_of h.items) name ≡ Some (entry_of h.item).kind =
      subst (λ n. kind_in (entries_of h.items) n ≡ Some (entry_of h.item).kind) h.named (kind_found h.items spread h.item item) in
      let is : x ≡ said_of s at.stack h.inside name (entry_of h.item).kind =
      at.is ∙ ap (λ (o : Option Kind). said_of s at.stack h.inside name (kind_asked false o)) kind
      ∙ ap (said_of s at.stack h.inside name) (asked_as_it_is (entry_of h.item).kind) in
      let agrees : Agrees (cited s at.stack) (fate_of s h.inside h.item)
      (said_of s at.stack h.inside (name_of h.item) (entry_of h.item).kind) = law s at.stack h.inside h.item in (
        at.stack,
        subst (Agrees (cited s at.stack) fate) (sym is)
            (subst (λ n. Agrees (cited s at.stack) fate (said_of s at.stack h.inside n (entry_of h.item).kind)) h.named
            (subst (λ (f : Fate). Agrees (cited s at.stack) f
            (said_of s at.stack h.inside (name_of h.item) (entry_of h.item).kind)) h.fate_is agrees)),
      )
