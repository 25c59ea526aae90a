-- What is cut into parts, and what is joined from them.
use Rattle.std.proofs.Common.{◌≡◌, ℕ, suc, ◌<◌, List, [], ◌∷◌, ◌++◌, length, take, drop, reverse, Vec, Ok, Err, inl, inr, refl, sym, ◌∙◌}
use Rattle.std.proofs.{Common.{ap, subst, append_assoc, arith}, lemmas.List.{append-nil, map-append, reverse-append, take-append-drop}}
use Rattle.std.specs.{Prelude.MatchResult, Global.Global}
use Rattle.lc_tree.specs.{Listing.EntryModel, Named.{Looks, bytes_of, AreEntriesOf, IsFirstFault, LooksAt}, Parts.{Part, Run, all_of}}
use Rattle.lc_tree.specs.{Parts.{AreJoined, HaveLooked, IsFaultOfJoining}, declared.read_fault.ReadFault.ReadFault}
use Rattle.lc_tree.proofs.SomeNames.{entries_joined, fault_after, fault_before, memory_fault}

-- one part more is cut from the end
pub cut_more : {X : Type 0} (all left new : List X) (parts : List (Vec X Global)) (part : Vec X Global) (n : ℕ)
    → left ++ all_of (reverse parts) ≡ all → new ≡ take n left → part.items ≡ drop n left
    → new ++ all_of (reverse (parts ++ part ∷ [])) ≡ all
cut_more {X} all left new parts part n before front back =
    let joined : new ++ part.items ≡ left
    = ap (λ (l : List X). l ++ part.items) front ∙ (ap (λ (l : List X). take n left ++ l) back ∙ take-append-drop n left) in
    ap (λ (ps : List (Vec X Global)). new ++ all_of ps) (reverse-append parts (part ∷ []))
    ∙ (sym (append_assoc new part.items (all_of (reverse parts))) ∙ (ap (λ (l : List X). l ++ all_of (reverse parts)) joined ∙ before))

-- the entries of one part more
pub joined_more : (parts : List Part) (entries : List EntryModel) (part : Vec EntryModel Global) → AreJoined parts entries
    → AreJoined (parts ++ Ok part ∷ []) (entries ++ part.items)
joined_more [] entries part none =
    ([], refl, ap (λ (l : List EntryModel). l ++ part.items) none ∙ sym (append-nil part.items))
joined_more (Ok first ∷ parts) entries part all = (
  all.0 ++ part.items,
  joined_more parts all.0 part all.1,
  ap (λ (l : List EntryModel). l ++ part.items) all.2 ∙ append_assoc first.items all.0 part.items,
)
joined_more (Err found ∷ parts) entries part all = absurd all

-- the fault of a part after parts that have none
pub first_at_fault : (parts after : List Part) (entries : List EntryModel) (found : ReadFault) → AreJoined parts entries
    → IsFaultOfJoining (parts ++ Err found ∷ after) found
first_at_fault [] after entries found all = refl
first_at_fault (Ok first ∷ parts) after entries found all = inr (first_at_fault parts after all.0 found all.1)
first_at_fault (Err other ∷ parts) after entries found all = absurd all

-- ---- what looks at all parts gave is what looks at all names gave

module _ (shows : Looks) where
  -- the looks at the parts behind the first
  behind : (run : Run) (runs : List Run) (part : Part) (parts : List Part) → HaveLooked shows (run ∷ runs) (part ∷ parts)
      → HaveLooked shows runs parts
  behind run runs part parts have i r p low = let more : suc i < suc (length runs) = omega (arith, low) in have (suc i) r p more

  first : (run : Run) (runs : List Run) (part : Part) (parts : List Part) → HaveLooked shows (run ∷ runs) (part ∷ parts)
      → LooksAt shows (bytes_of run.items) part
  first run runs part parts have = let low : 0 < suc (length runs) = omega arith in have 0 run part low

  names_apart : (run : Run) (runs : List Run) → bytes_of (all_of (run ∷ runs)) ≡ bytes_of run.items ++ bytes_of (all_of runs)
  names_apart run runs = map-append (λ (n : Vec ℕ Global). n.items) run.items (all_of runs)

  entries_of_all : (runs : List Run) (parts : List Part) (entries : List EntryModel) → length parts ≡ length runs
      → HaveLooked shows runs parts → AreJoined parts entries → AreEntriesOf shows (bytes_of (all_of runs)) entries
  entries_of_all [] [] entries same have none = none
  entries_of_all [] (part ∷ parts) entries same have all = let no : suc (length parts) ≡ 0 = same in absurd (omega (arith, no))
  entries_of_all (run ∷ runs) [] entries same have all = let no : 0 ≡ suc (length runs) = same in absurd (omega (arith, no))
  entries_of_all (run ∷ runs) (Err found ∷ parts) entries same have all = absurd all
  entries_of_all (run ∷ runs) (Ok part ∷ parts) entries same have (rest, all, e) =
      let counted : suc (length parts) ≡ suc (length runs) = same in
      let fewer : length parts ≡ length runs = omega (arith, counted) in
      subst (λ (ns : List (List ℕ)). AreEntriesOf shows ns entries) (sym (names_apart run runs))
      (subst (λ (es : List EntryModel). AreEntriesOf shows (bytes_of run.items ++ bytes_of (all_of runs)) es) (sym e)
      (entries_joined shows (bytes_of run.items) (bytes_of (all_of runs)) part.items rest (first run runs (Ok part) parts have)
      (entries_of_all runs parts rest fewer (behind run runs (Ok part) parts have) all)))

  fault_of_all : (runs : List Run) (parts : List Part) (found : ReadFault) → length parts ≡ length runs
      → HaveLooked shows runs parts → IsFaultOfJoining parts found → IsFirstFault shows (bytes_of (all_of runs)) found
  fault_of_all runs [] found same have is = absurd is
  fault_of_all [] (part ∷ parts) found same have is = let no : suc (length parts) ≡ 0 = same in absurd (omega (arith, no))
  fault_of_all (run ∷ runs) (Err refused ∷ parts) found same have is =
      subst (λ (ns : List (List ℕ)). IsFirstFault shows ns found) (sym (names_apart run runs))
      (fault_before shows (bytes_of run.items) (bytes_of (all_of runs)) found
      (subst (λ (f : ReadFault). IsFirstFault shows (bytes_of run.items) f) (sym is) (first run runs (Err refused) parts have)))
  fault_of_all (run ∷ runs) (Ok part ∷ parts) found same have (inl is) =
      subst (λ (f : ReadFault). IsFirstFault shows (bytes_of (all_of (run ∷ runs))) f) (sym is)
      (memory_fault shows (bytes_of (all_of (run ∷ runs))))
  fault_of_all (run ∷ runs) (Ok part ∷ parts) found same have (inr later) =
      let counted : suc (length parts) ≡ suc (length runs) = same in
      let fewer : length parts ≡ length runs = omega (arith, counted) in
      subst (λ (ns : List (List ℕ)). IsFirstFault shows ns found) (sym (names_apart run runs))
      (fault_after shows (bytes_of run.items) (bytes_of (all_of runs)) part.items found (first run runs (Ok part) parts have)
      (fault_of_all runs parts found fewer (behind run runs (Ok part) parts have) later))

  -- the looks at all names, which were cut into these parts
  pub looks_joined : (names : List (Vec ℕ Global)) (runs : List Run) (parts : List Part) (result : Part) → all_of runs ≡ names
      → length parts ≡ length runs → HaveLooked shows runs parts
      → MatchResult result (λ (entries : Vec EntryModel Global). AreJoined parts entries.items) (IsFaultOfJoining parts)
      → LooksAt shows (bytes_of names) result
  looks_joined names runs parts (Ok entries) cut same have joins =
      subst (λ (ns : List (Vec ℕ Global)). AreEntriesOf shows (bytes_of ns) entries.items) cut
      (entries_of_all runs parts entries.items same have joins)
  looks_joined names runs parts (Err found) cut same have joins =
      subst (λ (ns : List (Vec ℕ Global)). IsFirstFault shows (bytes_of ns) found) cut (fault_of_all runs parts found same have joins)
