-- The items of a directory to which names lead.
use Rattle.std.proofs.{Common.{arith, ◌≡◌, ℕ, List, [], ◌∷◌, ◌++◌, sym, ap, subst, Ok, Some}, lemmas.Grind.common_steps}
use Rattle.std.specs.List.{Contains}
use Rattle.lc_paths.specs.Explanations.OpenDirs.{kind_in}
use Rattle.lc_glob.specs.Path.{path_in}
use Rattle.lc_level.specs.{Answers.{Item, directory_item, name_of, entry_of, entries_of, Tree}, Job.JobModel, Level.child_job}
use Rattle.lc_level.specs.{OneAnswer.GivesOne, Filters.FiltersModel}
use Rattle.lc_level.proofs.WellFormed.{Spread}
use Rattle.lc_tree.specs.{Listing.EntryModel, Trees.{Listings, Contents}, declared.entry.Kind.{Kind, TheVariants.Dir}}
use Rattle.lc_walk.specs.{FoundAt.LeadsTo, GivenAnswers.IsGiven}
use Rattle.lc_walk.proofs.Elements.{In, is_in, in_mapped}
use Rattle.lc_laws.specs.{ByAnswers.{kind_before, IsEntryBy}, Entries.{HasListed, LeadDown, IsEntry}}
use Rattle.lc_laws.proofs.OneWay.{kind_found}

-- an item of a directory is that of its name
pub directory_is : (item : Item) → (entry_of item).kind ≡ Dir → item ≡ directory_item (name_of item)
directory_is item e = grind (arith, common_steps)

-- an item of a name and a kind
pub record IsItem (items : List Item) (name : List ℕ) (own : Kind) : Type 0 where
  pub item : Item
  pub has : In item items
  pub named : name_of item ≡ name
  pub kind_is : (entry_of item).kind ≡ own

-- an entry is that of an item
pub named_item : (items : List Item) (name : List ℕ) (own : Kind) → Contains (entries_of items) (record { name = name; kind = own })
    → IsItem items name own
named_item items name own there =
    let entry : EntryModel = record { name = name; kind = own } in
    let m = in_mapped entry_of entry items (is_in entry (entries_of items) there) in
    record {
      item = m.0;
      has = m.1;
      named = ap (λ (e : EntryModel). e.name) m.2;
      kind_is = ap (λ (e : EntryModel). e.kind) m.2;
    }

-- what stands under the name is of that kind
pub named_kind : (items : List Item) (name : List ℕ) (own : Kind) → Spread items → IsItem items name own
    → kind_in (entries_of items) name ≡ Some own
named_kind items name own spread i = grind (arith, common_steps, kind_found)

-- ---- where a tree answers in one way

some_more : (place : List (List ℕ)) (name : List ℕ) (names : List (List ℕ)) → place ++ name ∷ names ≡ [] → ⊥
some_more [] name names e = cc
some_more (n ∷ place) name names e = cc

-- names lead on past a name
down_past : (lists : List ℕ → Listings) (directory name : List ℕ) (names : List (List ℕ)) (kind : Kind) → (names ≡ [] → ⊥)
    → LeadDown lists directory (name ∷ names) kind → LeadDown lists (path_in directory name) names kind
down_past lists directory name names kind some down = grind (arith, common_steps)

-- the first of them is listed
listed_first : (lists : List ℕ → Listings) (directory name : List ℕ) (names : List (List ℕ)) (kind : Kind)
    → LeadDown lists directory (name ∷ names) kind → HasListed lists directory name (kind_before kind names)
listed_first lists directory name names kind down = grind (arith, common_steps)

module _ (lists : List ℕ → Listings) (gives : List ℕ → Contents) (one : GivesOne lists gives) (s : FiltersModel) where
  listed_at : (place : List (List ℕ)) (j k : JobModel) (t : Tree) (name : List ℕ) (names : List (List ℕ)) (kind : Kind)
      → LeadsTo s j t place k → LeadDown lists j.path (place ++ name ∷ names) kind
      → HasListed lists k.path name (kind_before kind names)
  listed_at [] j k t name names kind leads down =
      subst (λ (i : JobModel). HasListed lists i.path name (kind_before kind names)) leads
      (listed_first lists j.path name names kind down)
  listed_at (n ∷ place) j k t name names kind (within, leaves, leads) down =
      let same : within.path ≡ j.path = ap (λ (i : JobModel). i.path) leaves.listed.is in
      listed_at place (child_job within n) k (λ p. t (n ∷ p)) name names kind leads
      (subst (λ d. LeadDown lists (path_in d n) (place ++ name ∷ names) kind) (sym same)
      (down_past lists j.path n (place ++ name ∷ names) kind (some_more place name names) down))

  -- a listed entry is one of the items
  pub has_listed : (top : JobModel) (t : Tree) → IsGiven lists gives s top t → (place : List (List ℕ)) (k : JobModel) (items : List Item)
      → LeadsTo s top t place k → (t place).here ≡ Ok items → (name : List ℕ) (own : Kind) → HasListed lists k.path name own
      → Contains (entries_of items) (record { name = name; kind = own })
  has_listed top t given place k items leads here name own so = grind (arith, common_steps)

  -- so an entry of the tree is one of its answers
  pub entry_by_lists : (top : JobModel) (t : Tree) → top.path ≡ [] → IsGiven lists gives s top t → (path : List ℕ) (kind : Kind)
      → IsEntry lists path kind → IsEntryBy s top t path kind
  entry_by_lists top t at_top given path kind entry = grind (arith, common_steps, has_listed, listed_at)
