-- The entries of a tree, by its listings alone.
use Rattle.std.specs.{Prelude.{ℕ, List, [], ◌∷◌, Ok}, List.Contains}
use Rattle.lc_glob.specs.Path.{path_in, segments_of}
use Rattle.lc_tree.specs.{Listing.EntryModel, Trees.Listings, declared.entry.Kind.{Kind, TheVariants.Dir}}

module _ (lists : List ℕ → Listings) where
  -- the listing of the directory at a path may have an entry of this name and kind
  abbrev pub HasListed : List ℕ → List ℕ → Kind → Type 0
  HasListed directory name kind =
      (entries : List EntryModel) × lists directory (Ok entries) × Contains entries (record { name = name; kind = kind })

  -- names lead from a directory down to an entry of this kind, each but the last through a directory
  abbrev pub LeadDown : List ℕ → List (List ℕ) → Kind → Type 0
  LeadDown directory [] kind = ⊥
  LeadDown directory (name ∷ []) kind = HasListed directory name kind
  LeadDown directory (name ∷ next ∷ names) kind =
      HasListed directory name Dir × LeadDown (path_in directory name) (next ∷ names) kind

  -- the tree has an entry of this path and kind
  abbrev pub IsEntry : List ℕ → Kind → Type 0
  IsEntry path kind = LeadDown [] (segments_of path) kind
