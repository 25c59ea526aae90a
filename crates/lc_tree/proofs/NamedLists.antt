-- What a directory lists by its names.
use Rattle.std.proofs.Common.{ℕ, List, Result, Ok, Err, inl, inr, refl}
use Rattle.lc_tree.specs.{Listing.{EntryModel, IsAnswerFor}, Named.{Looks, Names, AreAmong, AreEntriesOf, ListsNamed, ListsThese}}
use Rattle.lc_tree.specs.{Trees.{Listings, Lists}, declared.read_fault.ReadFault.ReadFault}
use Rattle.lc_tree.specs.declared.read_fault.ReadFault.TheVariants as fault

-- what may be listed where more may be
pub lists_more : (may more : Listings) → AreAmong may more
    → (answer : Result (List EntryModel) ReadFault) → Lists may answer → Lists more answer
lists_more may more goes (Ok listed) is = goes (Ok listed) is
lists_more may more goes (Err fault.Failed) is = goes (Err fault.Failed) is
lists_more may more goes (Err fault.Unnamed) is = goes (Err fault.Unnamed) is
lists_more may more goes (Err fault.BadName) is = goes (Err fault.BadName) is
lists_more may more goes (Err fault.Twice) is = goes (Err fault.Twice) is
lists_more may more goes (Err fault.TooMany) is = goes (Err fault.TooMany) is
lists_more may more goes (Err fault.Memory) is = tt

module _ (shows : Looks) (names : List (List ℕ)) where
  -- the entries of the names are listed, or make no listing
  pub of_entries : (found : List EntryModel) (answer : Result (List EntryModel) ReadFault) → AreEntriesOf shows names found
      → Lists (IsAnswerFor found) answer → Lists (ListsThese shows names) answer
  of_entries found answer are = lists_more (IsAnswerFor found) (ListsThese shows names) at answer
    where
      at : (a : Result (List EntryModel) ReadFault) → IsAnswerFor found a → ListsThese shows names a
      at (Ok listed) is = (found, are, is)
      at (Err refused) is = inr (found, are, is)

module _ (may : Names) (shows : Looks) where
  -- names that may be given are listed
  pub of_names : (names : List (List ℕ)) (answer : Result (List EntryModel) ReadFault) → may (Ok names)
      → Lists (ListsThese shows names) answer → Lists (ListsNamed may shows) answer
  of_names names answer given =
      lists_more (ListsThese shows names) (ListsNamed may shows) (λ a is. inl (names, given, is)) answer

  -- no names are given
  pub of_refusal : (refused : ReadFault) → may (Err refused) → Lists (ListsNamed may shows) (Err refused)
  of_refusal fault.Failed is = inr (fault.Failed, is, refl)
  of_refusal fault.Unnamed is = inr (fault.Unnamed, is, refl)
  of_refusal fault.BadName is = inr (fault.BadName, is, refl)
  of_refusal fault.Twice is = inr (fault.Twice, is, refl)
  of_refusal fault.TooMany is = inr (fault.TooMany, is, refl)
  of_refusal fault.Memory is = tt
