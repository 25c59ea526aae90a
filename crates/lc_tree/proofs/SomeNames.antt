-- Entries of some names, name by name.
use Rattle.std.proofs.Common.{ℕ, List, [], ◌∷◌, ◌++◌, Option, Result, Ok, Err, Vec, inl, inr, refl, sym, ◌∙◌, ap, subst, append_assoc}
use Rattle.std.proofs.lemmas.List.{append-nil}
use Rattle.std.specs.Global.{Global}
use Rattle.lc_tree.specs.{Listing.EntryModel, Named.{Looks, entry_of, AreEntriesOf, IsFirstFault, LooksAt}, declared.entry.Kind.Kind}
use Rattle.lc_tree.specs.declared.read_fault.ReadFault.{ReadFault}
use Rattle.lc_tree.specs.declared.read_fault.ReadFault.TheVariants as fault

-- what looks gave, where they may show more
looks_more : (some others : Looks) → ((name : List ℕ) (shown : Result (Option Kind) ReadFault) → some name shown → others name shown)
    → (ns : List (List ℕ)) (es : List EntryModel) → AreEntriesOf some ns es → AreEntriesOf others ns es
looks_more some others goes [] es none = none
looks_more some others goes (n ∷ ns) es (k, rest, first, all, e) =
    (k, rest, goes n (Ok k) first, looks_more some others goes ns rest all, e)

fault_more : (some others : Looks) → ((name : List ℕ) (shown : Result (Option Kind) ReadFault) → some name shown → others name shown)
    → (ns : List (List ℕ)) (found : ReadFault) → IsFirstFault some ns found → IsFirstFault others ns found
fault_more some others goes [] found is = is
fault_more some others goes (n ∷ ns) found (inl refused) = inl refused
fault_more some others goes (n ∷ ns) found (inr (inl here)) = inr (inl (goes n (Err found) here))
fault_more some others goes (n ∷ ns) found (inr (inr later)) =
    inr (inr ((later.0.0, goes n (Ok later.0.0) later.0.1), fault_more some others goes ns found later.1))

pub looked_more : (some others : Looks)
    → ((name : List ℕ) (shown : Result (Option Kind) ReadFault) → some name shown → others name shown)
    → (ns : List (List ℕ)) (result : Result (Vec EntryModel Global) ReadFault) → LooksAt some ns result → LooksAt others ns result
looked_more some others goes ns (Ok entries) is = looks_more some others goes ns entries.items is
looked_more some others goes ns (Err found) is = fault_more some others goes ns found is

module _ (shows : Looks) where
  -- the entries of names and of others after them
  pub entries_joined : (ns ms : List (List ℕ)) (es fs : List EntryModel) → AreEntriesOf shows ns es → AreEntriesOf shows ms fs
      → AreEntriesOf shows (ns ++ ms) (es ++ fs)
  entries_joined [] ms es fs none more = subst (λ (l : List EntryModel). AreEntriesOf shows ms (l ++ fs)) (sym none) more
  entries_joined (n ∷ ns) ms es fs (k, rest, first, all, e) more = (
    k,
    rest ++ fs,
    first,
    entries_joined ns ms rest fs all more,
    ap (λ (l : List EntryModel). l ++ fs) e ∙ append_assoc (entry_of n k) rest fs,
  )

  -- one name more
  pub entries_more : (ns : List (List ℕ)) (es : List EntryModel) (name : List ℕ) (kind : Option Kind)
      → AreEntriesOf shows ns es → shows name (Ok kind) → AreEntriesOf shows (ns ++ name ∷ []) (es ++ entry_of name kind)
  entries_more ns es name kind all is =
      entries_joined ns (name ∷ []) es (entry_of name kind) all (kind, [], is, refl, sym (append-nil (entry_of name kind)))

  -- an allocation may fail at any name
  pub memory_fault : (ns : List (List ℕ)) → IsFirstFault shows ns fault.Memory
  memory_fault [] = refl
  memory_fault (n ∷ ns) = inl refl

  -- a fault of later names, after names that have entries
  pub fault_after : (ns ms : List (List ℕ)) (es : List EntryModel) (found : ReadFault) → AreEntriesOf shows ns es
      → IsFirstFault shows ms found → IsFirstFault shows (ns ++ ms) found
  fault_after [] ms es found none is = is
  fault_after (n ∷ ns) ms es found (k, rest, first, all, e) is = inr (inr ((k, first), fault_after ns ms rest found all is))

  -- the fault of a name after names that have entries
  pub first_fault : (ns : List (List ℕ)) (es : List EntryModel) (name : List ℕ) (after : List (List ℕ)) (found : ReadFault)
      → AreEntriesOf shows ns es → shows name (Err found) → IsFirstFault shows (ns ++ name ∷ after) found
  first_fault ns es name after found all is = fault_after ns (name ∷ after) es found all (inr (inl is))

  -- a fault of names that have others after them
  pub fault_before : (ns ms : List (List ℕ)) (found : ReadFault) → IsFirstFault shows ns found → IsFirstFault shows (ns ++ ms) found
  fault_before [] ms found is = subst (λ (f : ReadFault). IsFirstFault shows ms f) (sym is) (memory_fault ms)
  fault_before (n ∷ ns) ms found (inl refused) = inl refused
  fault_before (n ∷ ns) ms found (inr (inl here)) = inr (inl here)
  fault_before (n ∷ ns) ms found (inr (inr later)) = inr (inr (later.0, fault_before ns ms found later.1))
