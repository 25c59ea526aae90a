-- Listing a directory by its names: which names the directory has, what a look at each name shows, and which listing follows.
use Rattle.std.specs.{Prelude.{◌≡◌, ◌⊎◌, ℕ, List, [], ◌∷◌, ◌++◌, map, Vec, Option, Some, None, Result, Ok, Err}, Global.Global}
use Rattle.lc_tree.specs.{Listing.{EntryModel, IsAnswerFor}, Trees.Listings, declared.{entry.Kind.Kind, read_fault.ReadFault.ReadFault}}
use Rattle.lc_tree.specs.declared.read_fault.ReadFault.TheVariants as fault

-- which names, or which error, a directory may return, apart from a failed allocation
abbrev pub Names : Type 1
Names = Result (List (List ℕ)) ReadFault → Type 0

-- what a look at a name of a directory may show: the kind of the entry, that there is no entry, or an error
abbrev pub Looks : Type 1
Looks = List ℕ → Result (Option Kind) ReadFault → Type 0

-- each result in `some` is also in `others`
abbrev pub AreAmong : Listings → Listings → Type 0
AreAmong some others = (answer : Result (List EntryModel) ReadFault) → some answer → others answer

-- the names and looks of a tree that returns no names
abbrev pub NoNames : Names
NoNames answer = ⊥

abbrev pub NoLooks : Looks
NoLooks name shown = ⊥

-- the bytes of each name
abbrev pub bytes_of : List (Vec ℕ Global) → List (List ℕ)
bytes_of names = map (λ (n : Vec ℕ Global). n.items) names

-- the result of asking for names: none, names that the directory may have, an error that it may return, or a failed allocation
abbrev pub GivesNames : Names → Result (Option (Vec (Vec ℕ Global) Global)) ReadFault → Type 0
GivesNames may (Ok None) = Unit {0}
GivesNames may (Ok (Some names)) = may (Ok (bytes_of names.items))
GivesNames may (Err fault.Failed) = may (Err fault.Failed)
GivesNames may (Err fault.Unnamed) = may (Err fault.Unnamed)
GivesNames may (Err fault.BadName) = may (Err fault.BadName)
GivesNames may (Err fault.Twice) = may (Err fault.Twice)
GivesNames may (Err fault.TooMany) = may (Err fault.TooMany)
GivesNames may (Err fault.Memory) = Unit {0}

-- the entry of a name as a list, which is empty if there is no entry
abbrev pub entry_of : List ℕ → Option Kind → List EntryModel
entry_of name None = []
entry_of name (Some kind) = record { name = name; kind = kind } ∷ []

module _ (shows : Looks) where
  -- the entries of the names that exist, in the order of the names
  abbrev pub AreEntriesOf : List (List ℕ) → List EntryModel → Type 0
  AreEntriesOf [] entries = entries ≡ []
  AreEntriesOf (name ∷ names) entries = (kind : Option Kind) × (rest : List EntryModel)
      × shows name (Ok kind) × AreEntriesOf names rest × (entries ≡ entry_of name kind ++ rest)

  -- the error of the first name that has one; before that name, an allocation may fail
  abbrev pub IsFirstFault : List (List ℕ) → ReadFault → Type 0
  IsFirstFault [] found = found ≡ fault.Memory
  IsFirstFault (name ∷ names) found =
      (found ≡ fault.Memory) ⊎ (shows name (Err found) ⊎ (((kind : Option Kind) × shows name (Ok kind)) × IsFirstFault names found))

  -- what looks at these names return: their entries, or the first error
  abbrev pub LooksAt : List (List ℕ) → Result (Vec EntryModel Global) ReadFault → Type 0
  LooksAt names (Ok entries) = AreEntriesOf names entries.items
  LooksAt names (Err found) = IsFirstFault names found

  -- what listing these names may return: the listing of their entries, the error for which these make no listing, or the first error of a
  -- name
  abbrev pub ListsThese : List (List ℕ) → Listings
  ListsThese names (Ok listed) = (found : List EntryModel) × AreEntriesOf names found × IsAnswerFor found (Ok listed)
  ListsThese names (Err refused) =
      IsFirstFault names refused ⊎ ((found : List EntryModel) × AreEntriesOf names found × IsAnswerFor found (Err refused))

-- what listing a directory may return: the result for names that the directory may have, or the error in place of names
abbrev pub ListsNamed : Names → Looks → Listings
ListsNamed may shows answer =
    ((names : List (List ℕ)) × may (Ok names) × ListsThese shows names answer)
    ⊎ ((refused : ReadFault) × may (Err refused) × (answer ≡ Err refused))
