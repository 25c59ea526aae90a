-- What is found in directories by their names.
use Rattle.std.proofs.Common.{◌≡◌, ◌≢◌, ℕ, ◌<◌, List, [], ◌∷◌, length, get_or, Result, Ok, Err, IfErr, IfOk, refl, arith, subst, sym}
use Rattle.std.proofs.lemmas.List.{get_or-map, length-map}
use Rattle.std.specs.{Borrow.Bor, List.Contains, Result.IsErrAnd}
use Rattle.lc_program.proofs.NamesTaken.{names}
use Rattle.lc_program.specs.{Finds.{Finds, FindsNone, JoinsNone, JoinsWalks}, declared.cause.Cause.Cause}
use Rattle.lc_walk.specs.declared.{report.Report.Report, walk_fault.WalkFault.WalkFault}

-- a cause that was passed on
pub passed_on : {A : Type 0} (P : Cause → Type 0) (answer : Result A Cause) (cause : Cause) → IsErrAnd answer (λ given. given ≡ cause)
    → P cause → IfErr answer P
passed_on P (Ok a) cause is has = absurd is
passed_on P (Err given) cause is has = subst P (sym is) has

pub contains_name : (ds : List (Bor (List ℕ))) (i : ℕ) (d : Bor (List ℕ)) → i < length ds → Contains (names ds) (get_or ds i d).now
contains_name ds i d low =
    (i, omega (arith, length-map ds (λ (b : Bor (List ℕ)). b.now)), get_or-map (λ (b : Bor (List ℕ)). b.now) ds i d _ low)

module _ (walks : List ℕ → Result Report WalkFault → Type 0) where
  -- of several directories
  pub finds_many : (ds : List (Bor (List ℕ))) (answer : Result Report Cause) → (length ds ≢ 1) → IfOk answer (JoinsWalks walks (names ds))
      → IfOk answer (Finds walks (names ds))
  finds_many ds (Err cause) many found = tt
  finds_many [] (Ok r) many found = found
  finds_many (a ∷ []) (Ok r) many found = absurd (many refl)
  finds_many (a ∷ b ∷ ds) (Ok r) many found = found

  pub none_many : (ds : List (Bor (List ℕ))) (answer : Result Report Cause) → (length ds ≢ 1) → IfErr answer (JoinsNone walks (names ds))
      → IfErr answer (FindsNone walks (names ds))
  none_many ds (Ok r) many none = tt
  none_many [] (Err cause) many none = none
  none_many (a ∷ []) (Err cause) many none = absurd (many refl)
  none_many (a ∷ b ∷ ds) (Err cause) many none = none
