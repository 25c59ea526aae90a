-- The parts of a directory's files, counted by themselves and joined in order, are its files counted one after another.
use Rattle.std.proofs.Common.{◌≡◌, ℕ, suc, ◌<◌, List, [], ◌∷◌, ◌++◌, length, refl, sym, ◌∙◌, ap, subst, Result, Ok, Err, Vec, false, true}
use Rattle.std.proofs.{Common.{arith, IfOk, IsOk}, lemmas.List.map-append}
use Rattle.std.specs.{Global.Global, List.{flat_map, AllByRecursion}, declared.alloc.AllocError.AllocError}
use Rattle.lc_census.specs.declared.line_count.Count.{Count}
use Rattle.lc_level.specs.{CountedNames.{AreCounted, file_fates, IsCounted}, CountedParts.{HaveCounted, Joins, files_of, faults_of}}
use Rattle.lc_level.specs.{Filters.FiltersModel, Job.JobModel, Classified.bytes_of, Level.{FileLineModel, counted_of, failed_of}}
use Rattle.lc_level.specs.Level.{counted_in, failed_in}
use Rattle.lc_level.specs.{declared.{counting.CountedFiles.CountedFiles, fault_word.FaultWord.FaultWord}, FaultLines.FaultLineModel}
use Rattle.lc_level.proofs.CountedMore.{are_appended, appended}
use Rattle.lc_tree.specs.{Parts.all_of, Trees.Contents}

abbrev Run : Type 0
Run = Vec (Vec ℕ Global) Global

abbrev Part : Type 0
Part = Result CountedFiles AllocError

-- these are the files of these names, and their faults
record AreFound (gives : List ℕ → Contents) (filters : FiltersModel) (j : JobModel) (names : List (List ℕ)) (files : List FileLineModel)
    (faults : List FaultLineModel) : Type 0 where
  results : List (Result Count FaultWord)
  may : AreCounted gives j names results
  files_are : files ≡ counted_in (file_fates filters j names results)
  faults_are : faults ≡ failed_in (file_fates filters j names results)

module _ (gives : List ℕ → Contents) (filters : FiltersModel) (j : JobModel) where
  -- consecutive names, counted apart, are counted
  both_found : (ns ms : List (List ℕ)) (fs hs : List FileLineModel) (gs ks : List FaultLineModel) → AreFound gives filters j ns fs gs
      → AreFound gives filters j ms hs ks → AreFound gives filters j (ns ++ ms) (fs ++ hs) (gs ++ ks)
  both_found ns ms fs hs gs ks a b = record {
    results = a.results ++ b.results;
    may = are_appended gives filters j ms b.results b.may ns a.results a.may;
    files_are = ap (λ l. l ++ hs) a.files_are ∙ ap (λ l. counted_in (file_fates filters j ns a.results) ++ l) b.files_are
        ∙ sym (appended gives filters j ms b.results b.may counted_of ns a.results a.may);
    faults_are = ap (λ l. l ++ ks) a.faults_are ∙ ap (λ l. failed_in (file_fates filters j ns a.results) ++ l) b.faults_are
        ∙ sym (appended gives filters j ms b.results b.may failed_of ns a.results a.may);
  }

  part_found : (run : Run) (part : Part) → IfOk part (IsCounted gives filters j (bytes_of run.items) []) → IsOk part
      → AreFound gives filters j (bytes_of run.items) (files_of part) (faults_of part)
  part_found run (Ok found) c has = record { results = c.results; may = c.may; files_are = c.files; faults_are = c.faults }
  part_found run (Err e) c has = let n : false ≡ true = has in absurd (cc n)

  all_found : (runs : List Run) (parts : List Part) → length parts ≡ length runs → HaveCounted gives filters j runs parts
      → AllByRecursion IsOk parts
      → AreFound gives filters j (bytes_of (all_of runs)) (flat_map files_of parts) (flat_map faults_of parts)
  all_found [] [] same have each = record { results = []; may = tt; files_are = refl; faults_are = refl }
  all_found [] (part ∷ parts) same have each = let n : suc (length parts) ≡ 0 = same in absurd (omega (arith, n))
  all_found (run ∷ runs) [] same have each = let n : 0 ≡ suc (length runs) = same in absurd (omega (arith, n))
  all_found (run ∷ runs) (part ∷ parts) same have each =
      let n : suc (length parts) ≡ suc (length runs) = same in
      let fewer : length parts ≡ length runs = omega (arith, n) in
      let low : 0 < suc (length runs) = omega arith in
      subst (λ (ns : List (List ℕ)). AreFound gives filters j ns (flat_map files_of (part ∷ parts)) (flat_map faults_of (part ∷ parts)))
      (sym (map-append (λ (n : Vec ℕ Global). n.items) run.items (all_of runs)))
      (both_found (bytes_of run.items) _ (files_of part) _ (faults_of part) _
      (part_found run part (have 0 run part low) each.0)
      (all_found runs parts fewer (λ i r p less. let more : suc i < suc (length runs) = omega (arith, less) in have (suc i) r p more)
      each.1))

  -- the names of all runs are counted, with what all parts found
  pub parts_counted : (names : List (Vec ℕ Global)) (runs : List Run) (parts : List Part) (absent : List FaultLineModel)
      (found : CountedFiles) → all_of runs ≡ names → length parts ≡ length runs → HaveCounted gives filters j runs parts
      → Joins parts absent found → IsCounted gives filters j (bytes_of names) absent found
  parts_counted names runs parts absent found cut same have joins =
      let all = all_found runs parts same have joins.each in
      subst (λ (ns : List (Vec ℕ Global)). IsCounted gives filters j (bytes_of ns) absent found) cut
      (record {
        results = all.results;
        may = all.may;
        files = joins.files ∙ all.files_are;
        faults = joins.faults ∙ ap (λ l. absent ++ l) all.faults_are;
      })
