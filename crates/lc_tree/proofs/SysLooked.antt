-- What looks at names in a directory of the system gave, and its listing.
use Rattle.std.proofs.Common.{◌≡◌, ℕ, ◌==◌, Bool, true, false, List, [], ◌∷◌, ◌++◌, length, Vec, Result, Ok, Err, inl, inr, sym, ◌∙◌, ap}
use Rattle.std.proofs.Common.{subst}
use Rattle.std.specs.Global.{Global}
use Rattle.lc_io.specs.Reads.{Answer}
use Rattle.lc_tree.specs.{Listing.{EntryModel, IsAnswerFor}, Named.{bytes_of, AreEntriesOf, IsFirstFault, LooksAt}, SysLists.NamesOfSome}
use Rattle.lc_tree.specs.{SysLists.{SysListings, SysShows}, SysLooks.{AnyLook, ShowsIn}, SysNames.with_slash, SysTrees.SysTop}
use Rattle.lc_tree.specs.{SysTrees.{IsFaultOfOpening, IsFaultOfPath}, Trees.Lists, declared.read_fault.ReadFault.ReadFault}
use Rattle.lc_tree.proofs.{NamedLists.{of_entries, of_names, of_refusal}, SomeNames.looked_more}

-- the fault of a path is one of opening
pub opening_fault : (top : SysTop) (path : List ℕ) (found : ReadFault) → IsFaultOfPath top path found → IsFaultOfOpening found
opening_fault top path found (inl refused) = subst IsFaultOfOpening (sym refused) tt
opening_fault top path found (inr (none, failed)) = subst IsFaultOfOpening (sym failed) (λ rooms. tt)

-- looks at the path in the system of a path of the tree
pub looked_there : (top : SysTop) (path text : List ℕ) (within : Bool) (names : List (List ℕ))
    (result : Result (Vec EntryModel Global) ReadFault) → within ≡ top.stays → text ≡ top.text ++ path → LooksAt (ShowsIn (λ _. AnyLook within) path (with_slash text)) names result
    → LooksAt (SysShows top path) names result
looked_there top path text within names result same there looks =
    looked_more (ShowsIn (λ _. AnyLook within) path (with_slash text)) (SysShows top path)
    (λ name shown s. inl (subst (λ (t : List ℕ). ShowsIn (λ _. AnyLook top.stays) path (with_slash t) name shown) there
    (subst (λ (b : Bool). ShowsIn (λ _. AnyLook b) path (with_slash text) name shown) same s))) names result looks

-- some names, and a path that has none in the system
pub not_there : (top : SysTop) (path : List ℕ) (names : List (Vec ℕ Global)) (len : ℕ) (found : ReadFault) → len ≡ length names
    → (len == 0) ≡ false → IsFaultOfPath top path found → IsFirstFault (SysShows top path) (bytes_of names) found
not_there top path [] len found all some is =
    let no : true ≡ false = sym (ap (λ (n : ℕ). n == 0) all) ∙ some in absurd (cc no)
not_there top path (n ∷ ns) len found all some (inl refused) = inl refused
not_there top path (n ∷ ns) len found all some (inr (none, failed)) = inr (inl (inr (none, ap Err failed)))

module _ {D : Type 0} (may_give : D → ℕ → Answer → D → Type 0) (top : SysTop) (path : List ℕ) where
  -- the names were not read
  pub unread_names : (found : ReadFault) → IsFaultOfOpening found → Lists (SysListings may_give top path) (Err found)
  unread_names found is = of_refusal (NamesOfSome may_give) (SysShows top path) found is

  -- the entries of names that were read
  pub listed_entries : (names : List (List ℕ)) (entries : List EntryModel) (answer : Result (List EntryModel) ReadFault)
      → NamesOfSome may_give (Ok names) → AreEntriesOf (SysShows top path) names entries → Lists (IsAnswerFor entries) answer
      → Lists (SysListings may_give top path) answer
  listed_entries names entries answer read are is =
      of_names (NamesOfSome may_give) (SysShows top path) names answer read (of_entries (SysShows top path) names entries answer are is)
