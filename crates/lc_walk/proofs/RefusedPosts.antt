-- What is lawful where posts may have been refused is so wherever they may have been.
use Rattle.std.proofs.Common.{arith, ◌≡◌, ℕ, suc, Bool, true, false, ◌||◌, List, [], ◌∷◌, refl, slice_get, Some}
use Rattle.std.proofs.lemmas.Grind.{common_steps}
use Rattle.std.specs.List.{list_any}
use Rattle.lc_board.specs.{Pass.Pass, declared.{event.Event.{Event, TheVariants.{Return, Fault}}, answers.Ended.Ended}}
use Rattle.lc_level.specs.{Answers.Answers, Job.JobModel}
use Rattle.lc_walk.specs.{Lawful.{Asked, Says}, WorkerResults.AreLawfulSince, declared.row.Row.Row}

-- some pass was answered Full
pub record SomeFull (passes : List (Pass JobModel Row)) : Type 0 where
  pub worker : ℕ
  pub pass : Pass JobModel Row
  pub is : slice_get passes worker ≡ Some pass
  pub was : pass.full ≡ true

-- where one of all was
pub full_pass : (passes : List (Pass JobModel Row)) → list_any (λ (p : Pass JobModel Row). p.full) passes ≡ true → SomeFull passes
full_pass [] e = cc
full_pass (p ∷ ps) e = at p.full refl e (full_pass ps)
  where
    at : (b : Bool) → p.full ≡ b → (b || list_any (λ (q : Pass JobModel Row). q.full) ps) ≡ true
        → (list_any (λ (q : Pass JobModel Row). q.full) ps ≡ true → SomeFull ps) → SomeFull (p ∷ ps)
    at true f e rec = record { worker = 0; pass = p; is = refl; was = f }
    at false f e rec = let r = rec e in record { worker = suc r.worker; pass = r.pass; is = r.is; was = r.was }

-- of one row
pub fuller_says : (ask : Asked) (full fuller : Bool) (e : Ended Row) (a : Answers) (posts : List (ℕ × JobModel))
    → (full ≡ true → fuller ≡ true) → Says ask full e a posts → Says ask fuller e a posts
fuller_says ask full fuller e a posts f s = grind (arith, common_steps)

module _ (ask : Asked) (full fuller : Bool) (MayAnswer : List ℕ → Answers → Type 0) (f : full ≡ true → fuller ≡ true) where
  -- of all that a pass has given since
  pub fuller_since : (old m : List (Event JobModel Row)) (given : List Answers) → AreLawfulSince ask full MayAnswer old m given →
      AreLawfulSince ask fuller MayAnswer old m given
  fuller_since old [] [] l = tt
  fuller_since old [] (a ∷ given) l = absurd l
  fuller_since old (Return w i r ∷ m) [] l = absurd l
  fuller_since old (Return w i r ∷ m) (a ∷ given) l = grind (arith, common_steps, fuller_says, fuller_since old m given l.1)
  fuller_since old (Fault w i r ∷ m) [] l = absurd l
  fuller_since old (Fault w i r ∷ m) (a ∷ given) l = grind (arith, common_steps, fuller_says, fuller_since old m given l.1)
  fuller_since old (event ∷ m) given l = fuller_since old m given l
