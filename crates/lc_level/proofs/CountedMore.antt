-- Counting goes on, name by name.
use Rattle.std.proofs.Common.{◌≡◌, ℕ, List, [], ◌∷◌, ◌++◌, refl, sym, ◌∙◌, ap, subst, Result, Ok, Err, Vec, append-nil}
use Rattle.std.proofs.{Common.append_assoc, lemmas.Grind.flat_map-append}
use Rattle.std.specs.{Global.Global, List.flat_map, declared.alloc.AllocError.AllocError}
use Rattle.lc_census.specs.declared.line_count.Count.{Count}
use Rattle.lc_glob.specs.Path.{path_in}
use Rattle.lc_level.specs.{CountedNames.{AreCounted, file_fates, AddsCounted, IsCounted}, FileReads.{IsAnswer, MayCount}}
use Rattle.lc_level.specs.{FileAttributes.{FileAttributesModel, attributes_with}, Job.JobModel, Classified.bytes_of, Level.FileLineModel}
use Rattle.lc_level.specs.{Level.{Fate, asked_of, file_fate, counted_of, failed_of, failed_in, text_of}, Filters.FiltersModel}
use Rattle.lc_level.specs.declared.{counting.CountedFiles.CountedFiles, content_fault.ContentFault.ContentFault}
use Rattle.lc_level.specs.{declared.fault_word.FaultWord.FaultWord, FaultLines.FaultLineModel}
use Rattle.lc_tree.specs.Trees.{Contents}
use Rattle.lc_level.specs.declared.content_fault.ContentFault.TheVariants as content_fault

module _ (gives : List ℕ → Contents) (filters : FiltersModel) (j : JobModel) (ms : List (List ℕ)) (ss : List (Result Count FaultWord))
    (later : AreCounted gives j ms ss) where
  -- the files of more names may have given their results too
  pub are_appended : (ns : List (List ℕ)) (rs : List (Result Count FaultWord)) → AreCounted gives j ns rs
      → AreCounted gives j (ns ++ ms) (rs ++ ss)
  are_appended [] [] a = later
  are_appended [] (s ∷ rs) a = absurd a
  are_appended (m ∷ ns) [] a = absurd a
  are_appended (m ∷ ns) (s ∷ rs) a = (a.0, are_appended ns rs a.1)

  fates_appended : (ns : List (List ℕ)) (rs : List (Result Count FaultWord)) → AreCounted gives j ns rs →
      file_fates filters j (ns ++ ms) (rs ++ ss) ≡ file_fates filters j ns rs ++ file_fates filters j ms ss
  fates_appended [] [] a = refl
  fates_appended [] (s ∷ rs) a = absurd a
  fates_appended (m ∷ ns) [] a = absurd a
  fates_appended (m ∷ ns) (s ∷ rs) a = ap (λ l. (m, file_fate filters j m s) ∷ l) (fates_appended ns rs a.1)

  -- what their fates add
  pub appended : {A : Type 0} (f : List ℕ × Fate → List A) (ns : List (List ℕ)) (rs : List (Result Count FaultWord))
      → AreCounted gives j ns rs →
      flat_map f (file_fates filters j (ns ++ ms) (rs ++ ss))
      ≡ flat_map f (file_fates filters j ns rs) ++ flat_map f (file_fates filters j ms ss)
  appended f ns rs a =
      ap (flat_map f) (fates_appended ns rs a) ∙ flat_map-append f (file_fates filters j ns rs) (file_fates filters j ms ss)

module _ (gives : List ℕ → Contents) (filters : FiltersModel) (j : JobModel) (n : List ℕ) (r : Result Count FaultWord)
    (may : MayCount (gives (path_in j.path n)) r) where
  one : AreCounted gives j (n ∷ []) (r ∷ [])
  one = (may, tt)

  -- what one fate more adds
  more : {A : Type 0} (f : List ℕ × Fate → List A) (ns : List (List ℕ)) (rs : List (Result Count FaultWord)) → AreCounted gives j ns rs →
      flat_map f (file_fates filters j (ns ++ n ∷ []) (rs ++ r ∷ []))
      ≡ flat_map f (file_fates filters j ns rs) ++ f (n, file_fate filters j n r)
  more f ns rs a =
      appended gives filters j (n ∷ []) (r ∷ []) one f ns rs a
      ∙ ap (λ l. flat_map f (file_fates filters j ns rs) ++ l) (append-nil (f (n, file_fate filters j n r)))

  -- the files so far, and that of one name more
  pub counted_more : (ns : List (List ℕ)) (absent : List FaultLineModel) (old new : CountedFiles)
      → IsCounted gives filters j ns absent old →
      new.files.items ≡ old.files.items ++ counted_of (n, file_fate filters j n r)
      → new.faults.items ≡ old.faults.items ++ failed_of (n, file_fate filters j n r) →
      IsCounted gives filters j (ns ++ n ∷ []) absent new
  counted_more ns absent old new c files faults = record {
    results = c.results ++ r ∷ [];
    may = are_appended gives filters j (n ∷ []) (r ∷ []) one ns c.results c.may;
    files = files ∙ ap (λ l. l ++ counted_of (n, file_fate filters j n r)) c.files ∙ sym (more counted_of ns c.results c.may);
    faults = faults ∙ ap (λ l. l ++ failed_of (n, file_fate filters j n r)) c.faults
        ∙ append_assoc absent (failed_in (file_fates filters j ns c.results)) (failed_of (n, file_fate filters j n r))
        ∙ ap (λ l. absent ++ l) (sym (more failed_of ns c.results c.may));
  }

-- a counted file with these attributes
abbrev pub line_with : List ℕ → Count → FileAttributesModel → FileLineModel
line_with name count a = record { path = name; text = a.text; asked = a.asked; count = count }

module _ (gives : List ℕ → Contents) (filters : FiltersModel) (j : JobModel) (name path : List ℕ) (old new : CountedFiles)
    (answer : Result Count ContentFault) (at : path ≡ path_in j.path name) (may : IsAnswer (MayCount (gives path)) (λ c. c) answer) where
  -- a file was counted, and has the attributes that its path has
  pub adds_file : (count : Count) (a : FileAttributesModel) (done : Unit {0}) → answer ≡ Ok count
      → a ≡ attributes_with (text_of j path) (asked_of filters j path) → new.files.items ≡ old.files.items ++ line_with name count a ∷ []
      → new.faults.items ≡ old.faults.items → AddsCounted gives filters j name old new (Ok done)
  adds_file count a done is has pushed same = (
    Ok count,
    subst (λ (p : List ℕ). MayCount (gives p) (Ok count)) at
        (subst (λ (x : Result Count ContentFault). IsAnswer (MayCount (gives path)) (λ c. c) x) is may),
    pushed ∙ ap (λ b. old.files.items ++ line_with name count b ∷ [])
        (has ∙ ap (λ p. attributes_with (text_of j p) (asked_of filters j p)) at),
    same ∙ sym (append-nil old.faults.items),
  )

  -- a file was not counted
  pub adds_fault : (word : FaultWord) (done : Unit {0}) → answer ≡ Err (content_fault.Fault word)
      → new.files.items ≡ old.files.items → new.faults.items ≡ old.faults.items ++ record { path = name; word = word } ∷ []
      → AddsCounted gives filters j name old new (Ok done)
  adds_fault word done is same pushed = (
    Err word,
    subst (λ (p : List ℕ). MayCount (gives p) (Err word)) at
        (subst (λ (x : Result Count ContentFault). IsAnswer (MayCount (gives path)) (λ c. c) x) is may),
    same ∙ sym (append-nil old.files.items),
    pushed,
  )

bytes_more : (ns : List (Vec ℕ Global)) (n : Vec ℕ Global) → bytes_of (ns ++ n ∷ []) ≡ bytes_of ns ++ n.items ∷ []
bytes_more [] n = refl
bytes_more (m ∷ ns) n = ap (λ (l : List (List ℕ)). m.items ∷ l) (bytes_more ns n)

-- the files so far, and one more
pub counted_next : (gives : List ℕ → Contents) (filters : FiltersModel) (j : JobModel) (ns : List (Vec ℕ Global)) (n : Vec ℕ Global)
    (absent : List FaultLineModel) (old new : CountedFiles)
    (result : Result (Unit {0}) AllocError) (u : Unit {0}) → result ≡ Ok u →
    IsCounted gives filters j (bytes_of ns) absent old → AddsCounted gives filters j n.items old new result
    → IsCounted gives filters j (bytes_of (ns ++ n ∷ [])) absent new
counted_next gives filters j ns n absent old new result u is c added =
    let a : AddsCounted gives filters j n.items old new (Ok u) = subst
    (λ (x : Result (Unit {0}) AllocError). AddsCounted gives filters j n.items old new x) is added in
    subst (λ (l : List (List ℕ)). IsCounted gives filters j l absent new) (sym (bytes_more ns n))
    (counted_more gives filters j n.items a.0 a.1 (bytes_of ns) absent old new c a.2 a.3)
