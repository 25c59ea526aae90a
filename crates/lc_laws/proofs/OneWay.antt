-- What a directory is entered as, where its tree answers in one way.
use Rattle.std.proofs.Common.{rules, arith, ◌≡◌, ℕ, false, List, [], ◌∷◌, ◌++◌, refl, sym, ◌∙◌, ap, subst, Option, Some, None, Result, Ok}
use Rattle.std.proofs.{Common.{Err, find, bytes_eq, cond, append_assoc, append-nil, inl, inr}, lemmas.Grind.common_steps}
use Rattle.lc_paths.specs.Explanations.OpenDirs.{OpenDirModel, open_dir, MayEnter, kind_in}
use Rattle.lc_glob.specs.Path.{segments_of}
use Rattle.lc_level.specs.{Answers.{Item, directory_item, name_of, entry_of, entries_of, Answers, Tree}, FaultLines.FaultLineModel}
use Rattle.lc_level.specs.{Job.JobModel, Level.{faulted_level, level, child_job}, OneAnswer.GivesOne, Filters.FiltersModel}
use Rattle.lc_level.specs.{WellFormed.IsWellFormed, TreeAnswers.MayAnswer}
use Rattle.lc_level.proofs.{OneLevel.{here, same_rules}, WellFormed.{IsGoodName, Spread, bytes_same, other_bytes, bytes_other}}
use Rattle.lc_tree.specs.{Listing.EntryModel, Paths.names_of_path, Trees.{Listings, Contents}, declared.entry.Kind.Kind}
use Rattle.lc_walk.specs.{FoundAt.{IsListed, WalksInto, LeadsTo}, GivenAnswers.{HasListings, IsGiven}}
use Rattle.lc_walk.proofs.{Elements.In, Levels.well_formed_items, Places.names_of_path-path_in}
use Rattle.lc_laws.specs.ByAnswers.{EntersBy}
use Rattle.lc_laws.proofs.{TakingPart.in_part, Elements.of_each}

-- ---- entering

-- a listed directory is entered, with its items
pub record Entered (items : List Item) (inside : JobModel) (entered : Result OpenDirModel FaultLineModel) : Type 0 where
  pub here : OpenDirModel
  pub is : entered ≡ Ok here
  pub job : here.job ≡ inside
  pub entries : here.entries ≡ entries_of items

-- what is listed may be entered
pub listed_entered : (j : JobModel) (a : Answers) (items : List Item) (inside : JobModel) → IsListed j a items inside
    → Entered items inside (open_dir j a)
listed_entered j a items inside l = grind (arith, common_steps, here)

-- what is entered is listed
pub record Listed (j : JobModel) (a : Answers) (here : OpenDirModel) : Type 0 where
  pub items : List Item
  pub listed : IsListed j a items here.job
  pub entries : here.entries ≡ entries_of items

-- what may be entered is listed
pub entered_listed : (j : JobModel) (a : Answers) (here : OpenDirModel) → open_dir j a ≡ Ok here → Listed j a here
entered_listed j a here so = grind (arith, common_steps)

-- what can't be entered has its fault as its level
pub fault_level : (s : FiltersModel) (j : JobModel) (a : Answers) (fault : FaultLineModel) → open_dir j a ≡ Err fault
    → level s j a ≡ faulted_level fault.path fault.word
fault_level s j a fault is = grind (arith, common_steps)

module _ (lists : List ℕ → Listings) (gives : List ℕ → Contents) (one : GivesOne lists gives) (s : FiltersModel) where
  -- any two answers are entered as the same
  pub one_open_dir : (j : JobModel) (a b : Answers) → MayAnswer lists gives j.path a → MayAnswer lists gives j.path b
      → open_dir j a ≡ open_dir j b
  one_open_dir j a b may also = grind (arith, common_steps, here, same_rules)

  -- what is entered is entered by the answers that are known
  pub entered_by : (j : JobModel) (a : Answers) (entered : Result OpenDirModel FaultLineModel) → MayAnswer lists gives j.path a
      → MayEnter lists gives j entered → entered ≡ open_dir j a
  entered_by j a entered may enters = sym enters.gives_it ∙ one_open_dir j enters.answers a enters.may may

-- ---- the names of items

-- what stands under the name of an item is that item
pub kind_found : (items : List Item) → Spread items → (item : Item) → In item items
    → kind_in (entries_of items) (name_of item) ≡ Some (entry_of item).kind
kind_found [] spread item i = absurd i
kind_found (x ∷ xs) spread item (inl e) =
    ap {B = Option Kind} (λ b. elim (cond b (Some (entry_of x)) (find (λ (d : EntryModel). bytes_eq d.name (name_of item)) (entries_of xs)))
    [ None ↦ None | Some d ↦ Some d.kind ]) (bytes_same (name_of x) (name_of item) (ap name_of e))
    ∙ ap (λ (y : Item). Some (entry_of y).kind) e
kind_found (x ∷ xs) spread item (inr i) =
    ap {B = Option Kind} (λ b. elim (cond b (Some (entry_of x)) (find (λ (d : EntryModel). bytes_eq d.name (name_of item)) (entries_of xs)))
    [ None ↦ None | Some d ↦ Some d.kind ])
    (other_bytes (name_of x) (name_of item) (λ e. bytes_other (name_of item) (name_of x)
    (of_each (λ d. bytes_eq (name_of d) (name_of x) ≡ false) item xs spread.0 i) (sym e)))
    ∙ kind_found xs spread.2 item i

-- the name of an item is good
pub good_name : (items : List Item) → Spread items → (item : Item) → In item items → IsGoodName (name_of item)
good_name [] spread item i = absurd i
good_name (x ∷ xs) spread item (inl e) = subst (λ (y : Item). IsGoodName (name_of y)) e spread.1
good_name (x ∷ xs) spread item (inr i) = good_name xs spread.2 item i

-- a good name is one segment
pub one_segment : (name : List ℕ) → IsGoodName name → segments_of name ≡ name ∷ []
one_segment [] good = absurd (good.0 refl)
one_segment (b ∷ bs) good = names_of_path-path_in [] (b ∷ bs) good

-- ---- the directories to which names lead

module _ (s : FiltersModel) where
  -- below a directory with listings are others
  pub listings_below : (j : JobModel) (t : Tree) (name : List ℕ) (inside : JobModel) → HasListings s j t
      → WalksInto s j (t []) name inside → HasListings s (child_job inside name) (λ p. t (name ∷ p))
  listings_below j t name inside listings leaves place k leads = listings (name ∷ place) k (inside, leaves, leads)

  -- the names are those of the path
  pub place_names : (place : List (List ℕ)) (j k : JobModel) (t : Tree) → HasListings s j t → LeadsTo s j t place k
      → names_of_path k.path ≡ names_of_path j.path ++ place
  place_names [] j k t listings leads = ap (λ (i : JobModel). names_of_path i.path) (sym leads) ∙ sym (append-nil (names_of_path j.path))
  place_names (n ∷ place) j k t listings (inside, leaves, leads) =
      let spread : Spread leaves.items = well_formed_items (t []) (listings [] j refl) leaves.items leaves.listed.here in
      let good : IsGoodName n = good_name leaves.items spread (directory_item n)
      (in_part s j.path (directory_item n) leaves.items leaves.has) in
      let same : inside.path ≡ j.path = ap (λ (i : JobModel). i.path) leaves.listed.is in
      place_names place (child_job inside n) k (λ p. t (n ∷ p)) (listings_below j t n inside listings leaves) leads
      ∙ ap (λ p. p ++ place) (names_of_path-path_in inside.path n good ∙ ap (λ p. names_of_path p ++ n ∷ []) same)
      ∙ append_assoc (names_of_path j.path) (n ∷ []) place

-- ---- how a directory is entered

-- a relation by which directories are entered
abbrev pub Entering : Type 1
Entering = JobModel → Result OpenDirModel FaultLineModel → Type 0

module _ (Enters : Entering) (s : FiltersModel) where
  -- each directory to which names lead is entered by its answers alone, and has a listing that is one
  abbrev pub IsKnown : JobModel → Tree → Type 0
  IsKnown j t =
      (place : List (List ℕ)) (k : JobModel) → LeadsTo s j t place k
      → ((entered : Result OpenDirModel FaultLineModel) → Enters k entered → entered ≡ open_dir k (t place)) × IsWellFormed (t place)

  -- so it is below
  pub known_below : (j : JobModel) (t : Tree) (name : List ℕ) (inside : JobModel) → IsKnown j t → WalksInto s j (t []) name inside
      → IsKnown (child_job inside name) (λ p. t (name ∷ p))
  known_below j t name inside known leaves place k leads = known (name ∷ place) k (inside, leaves, leads)

  pub known_listings : (j : JobModel) (t : Tree) → IsKnown j t → HasListings s j t
  known_listings j t known place k leads = (known place k leads).1

-- a tree of answers is known so by itself
pub known_by_tree : (s : FiltersModel) (top : JobModel) (t : Tree) → top.path ≡ [] → HasListings s top t → IsKnown (EntersBy t) s top t
known_by_tree s top t at_top listings = grind (arith, common_steps, place_names)

-- and by a tree that answers in one way
pub known_by_one : (lists : List ℕ → Listings) (gives : List ℕ → Contents) → GivesOne lists gives → (s : FiltersModel) (top : JobModel)
    (t : Tree) → HasListings s top t → IsGiven lists gives s top t → IsKnown (MayEnter lists gives) s top t
known_by_one lists gives one s top t listings given = search (rules, arith, entered_by)
