-- What is said of a path by some answers is said by any others of which the same is read on the way.
use Rattle.std.proofs.Common.{arith, ◌≡◌, ℕ, Bool, true, false, cond, List, [], ◌∷◌, ◌++◌, refl, sym, ◌∙◌, ap, subst, Option, Some, None}
use Rattle.std.proofs.{Common.{Result, Ok, Err, option_map, find, bytes_eq, append_assoc, inl, inr}, lemmas.Grind.common_steps}
use Rattle.std.specs.Option.{is_none}
use Rattle.lc_paths.specs.Explanations.Explained.{Explanation, below, cited, said_for, said_beside, kind_asked, is_directory, OnTheWay}
use Rattle.lc_paths.specs.Explanations.Explained.{said_of_none, OnEntering, IsSaid, IsExplained}
use Rattle.lc_paths.specs.Explanations.OpenDirs.{OpenDirModel, DirStack, open_dir, open_dir_of, open_dir_after, kind_in}
use Rattle.lc_glob.proofs.Naming.{has_first}
use Rattle.lc_glob.specs.Path.{segments_of}
use Rattle.lc_level.specs.{Answers.{Item, directory_item, name_of, entry_of, entries_of, Items, Answers, Tree}, FaultLines.FaultLineModel}
use Rattle.lc_level.specs.{Job.JobModel, Level.{Reason, reason_for, child_job}, RuleFiles.{RuleBytes, rule_bytes, extended}}
use Rattle.lc_level.specs.{Filters.{FiltersModel, narrowed}, TopJob.top_job}
use Rattle.lc_level.proofs.WellFormed.{same_bytes}
use Rattle.lc_text.specs.PathLines.{is_bad_path}
use Rattle.lc_tree.specs.{Listing.EntryModel, Paths.names_of_path, declared.entry.Kind.{Kind, TheVariants.Dir}}
use Rattle.lc_walk.specs.{FoundAt.{WalksInto, LeadsTo}, GivenAnswers.HasListings}
use Rattle.lc_walk.proofs.{Elements.In, OneTree.leads_on}
use Rattle.lc_laws.specs.ByAnswers.{EntersBy, read_after, read_of, what_is_read, AgreeOnWay}
use Rattle.lc_laws.proofs.{Items.directory_is, OneWay.{Entering, entered_listed, place_names}, TakingPart.part_has}

-- ---- one directory

-- a directory is entered by what is read of it
abbrev opened : JobModel → Result (List EntryModel × RuleBytes) FaultLineModel → Result OpenDirModel FaultLineModel
opened k (Ok read) =
    Ok (record { job = extended k read.1; entries = read.0; info = read.1.info.rules; own = read.1.own.rules })
opened k (Err fault) = Err fault

as_read : (k : JobModel) (a : Answers) → open_dir k a ≡ opened k (what_is_read k a)
as_read k a = at a.here
  where
    after : (items : List Item) (r : Result RuleBytes FaultLineModel) → open_dir_after k items r ≡ opened k (read_after items r)
    after items (Ok files) = refl
    after items (Err fault) = refl

    at : (o : Items) → open_dir_of k a o ≡ opened k (read_of k a o)
    at (Ok items) = after items (rule_bytes k.ignore.no_ignore k.path items a)
    at (Err word) = refl

-- what stands under a name as a directory is an item
kind_item : (items : List Item) (name : List ℕ) → kind_in (entries_of items) name ≡ Some Dir → In (directory_item name) items
kind_item [] name e = absurd (cc e)
kind_item (x ∷ xs) name e = at (kind_item xs name) (bytes_eq (name_of x) name) refl e
  where
    at : (kind_in (entries_of xs) name ≡ Some Dir → In (directory_item name) xs) → (b : Bool) → bytes_eq (name_of x) name ≡ b
        → option_map (λ (d : EntryModel). d.kind)
        (cond b (Some (entry_of x)) (find (λ (d : EntryModel). bytes_eq d.name name) (entries_of xs))) ≡ Some Dir
        → In (directory_item name) (x ∷ xs)
    at rest true same f =
        let kind : (entry_of x).kind ≡ Dir = cc f in
        inl (directory_is x kind ∙ ap directory_item (same_bytes (name_of x) name same))
    at rest false same f = inr (rest f)

-- what is a directory is one of the tree
dir_there : (o : Option Kind) → is_directory o ≡ true → o ≡ Some Dir
dir_there o e = grind (arith, common_steps)

-- where an explanation goes into a directory a walk of the whole tree does
pub walked_into : (s : FiltersModel) (k : JobModel) (a : Answers) (here : OpenDirModel) → open_dir k a ≡ Ok here → (name : List ℕ)
    → kind_in here.entries name ≡ Some Dir → reason_for s here.job name (kind_asked true (kind_in here.entries name)) ≡ None
    → WalksInto (narrowed s None) k a name here.job
walked_into s k a here is name kind none =
    let l = entered_listed k a here is in
    record {
      items = l.items;
      listed = l.listed;
      has = part_has (narrowed s None) refl k.path (directory_item name) l.items
          (kind_item l.items name (ap (λ (es : List EntryModel). kind_in es name) (sym l.entries) ∙ kind));
      taken = ap is_none (ap (λ (o : Option Kind). reason_for s here.job name (kind_asked true o)) (sym kind) ∙ none);
    }

-- ---- down the path

-- what is said below a directory that is gone into may be said in another way
map_way : (reason : Option Reason) (is_there : Bool) (Skipped : Reason → Type 0) (Into Onto Beside : Type 0)
    → (reason ≡ None → is_there ≡ true → Into → Onto) → OnTheWay reason is_there Skipped Into Beside
    → OnTheWay reason is_there Skipped Onto Beside
map_way reason is_there Skipped Into Onto Beside on a = grind (arith, common_steps)

-- what is said by one entering is said by another, where a relation of a job and the names below it leads to that
module _ (s : FiltersModel) (as_dir : Bool) (x : Explanation) (Enters Onto : Entering) (Holds : JobModel → List (List ℕ) → Type 0)
    (known : (k : JobModel) (name : List ℕ) (names : List (List ℕ)) → Holds k (name ∷ names)
    → (entered : Result OpenDirModel FaultLineModel) → Enters k entered → Onto k entered)
    (further : (k : JobModel) (here : OpenDirModel) (name : List ℕ) (names : List (List ℕ)) → Holds k (name ∷ names) → Enters k (Ok here)
    → kind_in here.entries name ≡ Some Dir → reason_for s here.job name (kind_asked true (kind_in here.entries name)) ≡ None
    → Holds (child_job here.job name) names) where
  abbrev SaidBelow : Entering → DirStack → JobModel → List (List ℕ) → Type 0
  SaidBelow E stack k names = OnEntering E k x (λ child. IsSaid E s (stack ++ child ∷ []) child names as_dir x)

  carried : (name : List ℕ) (names : List (List ℕ)) (stack : DirStack) (k : JobModel) → Holds k (name ∷ names)
      → SaidBelow Enters stack k (name ∷ names) → SaidBelow Onto stack k (name ∷ names)
  carried name [] stack k holds (entered, enters, said) = (entered, known k name [] holds entered enters, said)
  carried name (next ∷ names) stack k holds (Err fault, enters, said) =
      (Err fault, known k name (next ∷ names) holds (Err fault) enters, said)
  carried name (next ∷ names) stack k holds (Ok here, enters, said) = (
    Ok here,
    known k name (next ∷ names) holds (Ok here) enters,
    map_way (reason_for s here.job name (kind_asked true (kind_in here.entries name))) (is_directory (kind_in here.entries name))
        (λ reason. x ≡ said_for (cited s (stack ++ here ∷ [])) below reason)
        (SaidBelow Enters (stack ++ here ∷ []) (child_job here.job name) (next ∷ names))
        (SaidBelow Onto (stack ++ here ∷ []) (child_job here.job name) (next ∷ names))
        (x ≡ said_beside s (stack ++ here ∷ []) (child_job here.job name) (next ∷ names) as_dir)
        (λ none there. carried next names (stack ++ here ∷ []) (child_job here.job name)
        (further k here name (next ∷ names) holds enters (dir_there (kind_in here.entries name) there) none)) said,
  )

  -- so it is of a path
  pub explained_on : (path : List ℕ)
      → ((name : List ℕ) (names : List (List ℕ)) → segments_of path ≡ name ∷ names → Holds (top_job s) (name ∷ names))
      → IsExplained Enters s path as_dir x → IsExplained Onto s path as_dir x
  explained_on path begins = at (is_bad_path path)
    where
      at : (b : Bool) → cond b (x ≡ said_of_none path) (SaidBelow Enters [] (top_job s) (segments_of path))
          → cond b (x ≡ said_of_none path) (SaidBelow Onto [] (top_job s) (segments_of path))
      at true e = e
      at false e =
          let h = has_first path in
          subst (SaidBelow Onto [] (top_job s)) (sym h.are)
          (carried h.first h.others [] (top_job s) (begins h.first h.others h.are) (subst (SaidBelow Enters [] (top_job s)) h.are e))

-- ---- two trees of answers

-- what is said by one is said by another, where the same is read on the way
pub said_by_way : (s : FiltersModel) (as_dir : Bool) (x : Explanation) (t : Tree)
    → HasListings (narrowed s None) (top_job s) t → (u : Tree) (path : List ℕ) → AgreeOnWay (narrowed s None) (top_job s) t u path
    → IsExplained (EntersBy u) s path as_dir x → IsExplained (EntersBy t) s path as_dir x
said_by_way s as_dir x t listings u path agree =
    explained_on s as_dir x (EntersBy u) (EntersBy t) Way
    (λ k name names way entered enters. ap (λ p. open_dir k (t p)) (led k (name ∷ names) way) ∙ sym (same k name names way entered enters))
    (λ k here name names way enters there none.
    let leaves = walked_into s k (t way.0) here (sym (same k name names way (Ok here) enters)) name there none in (
      way.0 ++ name ∷ [],
      leads_on (narrowed s None) way.0 (top_job s) k here.job name t way.1 leaves,
      way.2 ∙ sym (append_assoc way.0 (name ∷ []) names),
    )) path (λ name names are. ([], refl, are))
  where
    -- names of the path lead to the job
    Way : JobModel → List (List ℕ) → Type 0
    Way k names = (place : List (List ℕ)) × LeadsTo (narrowed s None) (top_job s) t place k × (segments_of path ≡ place ++ names)

    led : (k : JobModel) (names : List (List ℕ)) (way : Way k names) → names_of_path k.path ≡ way.0
    led k names way = place_names (narrowed s None) way.0 (top_job s) k t listings way.1

    same : (k : JobModel) (name : List ℕ) (names : List (List ℕ)) (way : Way k (name ∷ names))
        → (entered : Result OpenDirModel FaultLineModel) → EntersBy u k entered → entered ≡ open_dir k (t way.0)
    same k name names way entered enters =
        sym enters ∙ ap (λ p. open_dir k (u p)) (led k (name ∷ names) way) ∙ as_read k (u way.0)
        ∙ ap (opened k) (sym (agree way.0 name names k way.2 way.1)) ∙ sym (as_read k (t way.0))

-- so it is where no path alone is asked for
pub said_by_other : (s : FiltersModel) → s.only ≡ None → (as_dir : Bool) (x : Explanation) (t : Tree) → HasListings s (top_job s) t
    → (u : Tree) (path : List ℕ) → AgreeOnWay s (top_job s) t u path
    → IsExplained (EntersBy u) s path as_dir x → IsExplained (EntersBy t) s path as_dir x
said_by_other s whole as_dir x t listings u path agree =
    let same : s ≡ narrowed s None = ap (narrowed s) whole in
    said_by_way s as_dir x t (subst (λ (w : FiltersModel). HasListings w (top_job s) t) same listings) u path
    (subst (λ (w : FiltersModel). AgreeOnWay w (top_job s) t u path) same agree)
