-- Counting up to a large file: what is counted, and what is left.
use Rattle.std.proofs.Common.{◌≡◌, ℕ, List, [], ◌∷◌, ◌++◌, refl, sym, ◌∙◌, ap, subst, Ok, Vec, append-nil}
use Rattle.std.proofs.{Common.append_assoc, lemmas.List.map-append}
use Rattle.std.specs.Global.{Global}
use Rattle.lc_level.specs.{CountedNames.{AddsCounted, IsCounted, file_fates}, CountedParts.CountsSome, Job.JobModel, Classified.bytes_of}
use Rattle.lc_level.specs.{Level.{counted_of, failed_of, counted_in, failed_in}, declared.counting.CountedFiles.CountedFiles}
use Rattle.lc_level.specs.{FaultLines.FaultLineModel, Filters.FiltersModel}
use Rattle.lc_level.proofs.CountedMore.{counted_next, are_appended, appended}
use Rattle.lc_tree.specs.Trees.{Contents}

abbrev Names : Type 0
Names = List (Vec ℕ Global)

module _ (gives : List ℕ → Contents) (filters : FiltersModel) (j : JobModel) where
  -- a file more is counted, where none is left
  pub counted_last : (n : Vec ℕ Global) (old new : CountedFiles) (rest : Names) → rest ≡ []
      → AddsCounted gives filters j n.items old new (Ok tt) → (names : Names) (absent : List FaultLineModel)
      → CountsSome gives filters j names absent rest old → CountsSome gives filters j (names ++ n ∷ []) absent rest new
  counted_last n old new rest none added names absent s = record {
    done = s.done ++ n ∷ [];
    all = ap (λ l. (s.done ++ n ∷ []) ++ l) none ∙ append-nil (s.done ++ n ∷ [])
        ∙ ap (λ l. l ++ n ∷ []) (sym (append-nil s.done) ∙ ap (λ l. s.done ++ l) (sym none) ∙ s.all);
    counted = counted_next gives filters j s.done n absent old new (Ok tt) tt refl s.counted added;
  }

  -- what is counted of consecutive names is counted of all
  pub both_counted : (ns ms : List (List ℕ)) (absent : List FaultLineModel) (before later both : CountedFiles)
      → IsCounted gives filters j ns absent before → IsCounted gives filters j ms [] later
      → both.files.items ≡ before.files.items ++ later.files.items
      → both.faults.items ≡ before.faults.items ++ later.faults.items → IsCounted gives filters j (ns ++ ms) absent both
  both_counted ns ms absent before later both a b files faults = record {
    results = a.results ++ b.results;
    may = are_appended gives filters j ms b.results b.may ns a.results a.may;
    files = files ∙ ap (λ l. l ++ later.files.items) a.files
        ∙ ap (λ l. counted_in (file_fates filters j ns a.results) ++ l) b.files
        ∙ sym (appended gives filters j ms b.results b.may counted_of ns a.results a.may);
    faults = faults ∙ ap (λ l. l ++ later.faults.items) a.faults
        ∙ append_assoc absent (failed_in (file_fates filters j ns a.results)) later.faults.items
        ∙ ap (λ l. absent ++ l)
        (ap (λ l. failed_in (file_fates filters j ns a.results) ++ l) b.faults
        ∙ sym (appended gives filters j ms b.results b.may failed_of ns a.results a.may));
  }

  -- those that were left are counted too
  pub rest_counted : (names rest : Names) (absent : List FaultLineModel) (found later both : CountedFiles)
      → CountsSome gives filters j names absent rest found → IsCounted gives filters j (bytes_of rest) [] later
      → both.files.items ≡ found.files.items ++ later.files.items → both.faults.items ≡ found.faults.items ++ later.faults.items
      → IsCounted gives filters j (bytes_of names) absent both
  rest_counted names rest absent found later both s c files faults =
      subst (λ (ns : Names). IsCounted gives filters j (bytes_of ns) absent both) s.all
      (subst (λ (ns : List (List ℕ)). IsCounted gives filters j ns absent both)
      (sym (map-append (λ (n : Vec ℕ Global). n.items) s.done rest))
      (both_counted (bytes_of s.done) (bytes_of rest) absent found later both s.counted c files faults))
