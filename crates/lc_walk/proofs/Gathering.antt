-- What the workers of a walk leave is gathered one after another.
use Rattle.std.proofs.lemmas.Grind.{common_steps}
use Rattle.std.proofs.Common.{◌≡◌, ℕ, zero, suc, List, [], ◌∷◌, ◌++◌, length, slice_get, refl, sym, ◌∙◌, ap, subst, Some, None, ◌⊎◌, inl}
use Rattle.std.proofs.{Common.{inr, arith, length-append, append-nil}, lemmas.Grind.flat_map-append}
use Rattle.std.specs.List.{flat_map}
use Rattle.lc_walk.specs.{Running.{AllOver, TalliesAll}, Tally.{TallyModel, CountedFile, StandsFor}, TreeOfRows.numbers_below}
use Rattle.lc_walk.specs.{WorkerResults.TalliesFor, declared.worker.{StopReason.TheVariants.Over, WorkerResult.WorkerResult}}
use Rattle.lc_board.proofs.Places.{get_push_same}

-- what stands in a list with one more at its end
in_longer : {A : Type 0} (xs : List A) (x : A) (i : ℕ) (y : A) → slice_get (xs ++ x ∷ []) i ≡ Some y
    → (slice_get xs i ≡ Some y) ⊎ ((i ≡ length xs) × (x ≡ y))
in_longer [] x zero y e = inr (refl, cc e)
in_longer [] x (suc i) y e = let n : None ≡ Some y = e in absurd (cc n)
in_longer (z ∷ xs) x zero y e = inl e
in_longer (z ∷ xs) x (suc i) y e = grind (arith, common_steps, in_longer xs x i y e)

still_in : {A : Type 0} (xs : List A) (x : A) (i : ℕ) (y : A) → slice_get xs i ≡ Some y → slice_get (xs ++ x ∷ []) i ≡ Some y
still_in [] x i y e = let n : None ≡ Some y = e in absurd (cc n)
still_in (z ∷ xs) x zero y e = e
still_in (z ∷ xs) x (suc i) y e = still_in xs x i y e

module _ {P : Type 0} (done : List (WorkerResult P)) (x : WorkerResult P) where
  -- all have found the board over, and one more
  pub over_more : AllOver done → x.end ≡ Over → AllOver (done ++ x ∷ [])
  over_more all e = grind (arith, common_steps, in_longer)

  one_longer : length (done ++ x ∷ []) ≡ suc (length done)
  one_longer = let l = length-append done (x ∷ []) in omega (arith, l)

  -- the tally stands for the files of all, and of one more
  pub tallies_more : (old new : TallyModel) → TalliesAll done old
      → ((fs gs : List CountedFile) → StandsFor old fs → TalliesFor x.tally gs → StandsFor new (fs ++ gs))
      → TalliesAll (done ++ x ∷ []) new
  tallies_more old new all more files each =
      subst (λ n. StandsFor new (flat_map files (numbers_below n))) (sym one_longer)
      (subst (StandsFor new)
      (ap (λ l. flat_map files (numbers_below (length done)) ++ l) (sym (append-nil (files (length done))))
      ∙ sym (flat_map-append files (numbers_below (length done)) (length done ∷ [])))
      (more (flat_map files (numbers_below (length done))) (files (length done))
      (all files (λ w y is. each w y (still_in done x w y is))) (each (length done) x (get_push_same done x))))

-- all were gathered
pub all_done : {A : Type 0} (done rest all : List A) → done ++ rest ≡ all → rest ≡ [] → done ≡ all
all_done done rest all e none = sym (append-nil done) ∙ ap (λ r. done ++ r) (sym none) ∙ e
