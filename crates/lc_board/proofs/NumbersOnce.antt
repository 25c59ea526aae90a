-- In a legal history a number is posted, claimed and ended at most once, and it has a row once it has ended.
use Rattle.std.proofs.Common.{◌≡◌, ℕ, ◌+◌, ◌==◌, cond, Bool, true, false, List, [], ◌∷◌, Option, Some, None, refl, ◌∙◌, ap, subst, arith}
use Rattle.std.proofs.lemmas.Bool.{eqb-true}
use Rattle.lc_board.specs.State.{Status, Absent, Open, Claimed, Returned, Faulted, status}
use Rattle.lc_board.specs.{Laws.{Counts, NumbersOnce, GivenAs, EndedHasRow}, declared.event.Event.Event}
use Rattle.lc_board.specs.declared.{event.Event.TheVariants.{Post, Claim, Return, Fault, Over}, answers.Ended.Ended}
use Rattle.lc_board.specs.declared.answers.Ended.TheVariants as ended

first_counts : (b : Bool) → Counts (cond b Open Absent) 0 0 0
first_counts true = (omega arith, refl, refl)
first_counts false = (refl, refl, refl)

post_counts : (b : Bool) (s : Status) (p c e : ℕ) → Counts s p c e → (b ≡ true → s ≡ Absent) → Counts (cond b Open s) (cond b (p + 1) p) c e
post_counts true s p c e x is = let y = subst (λ t. Counts t p c e) (is refl) x in (omega (arith, y.0), y.1, y.2)
post_counts false s p c e x is = x

claim_counts : (b : Bool) (w : ℕ) (s : Status) (p c e : ℕ) → Counts s p c e → (b ≡ true → s ≡ Open)
    → Counts (cond b (Claimed w) s) p (cond b (c + 1) c) e
claim_counts true w s p c e x is = let y = subst (λ t. Counts t p c e) (is refl) x in (y.0, omega (arith, y.1), y.2)
claim_counts false w s p c e x is = x

end_counts : (t : Status) → ((p c e : ℕ) → Counts Returned p c e → Counts t p c e) → (b : Bool) (w : ℕ) (s : Status) (p c e : ℕ)
    → Counts s p c e → (b ≡ true → s ≡ Claimed w) → Counts (cond b t s) p c (cond b (e + 1) e)
end_counts t f true w s p c e x is = let y = subst (λ t. Counts t p c e) (is refl) x in f p c (e + 1) (y.0, y.1, omega (arith, y.2))
end_counts t f false w s p c e x is = x

first_given : (R : Type 0) (b : Bool) → GivenAs {R = R} (cond b Open Absent) None
first_given R true = refl
first_given R false = refl

-- a step between statuses that say the same of the row
step_given : {R : Type 0} (u t : Status) → ((o : Option (Ended R)) → GivenAs t o → GivenAs u o) → (b : Bool) (s : Status)
    (o : Option (Ended R)) → GivenAs s o → (b ≡ true → s ≡ t) → GivenAs (cond b u s) o
step_given u t f true s o x is = f o (subst (λ t. GivenAs t o) (is refl) x)
step_given u t f false s o x is = x

end_given : {R : Type 0} (t : Status) (d : Ended R) → GivenAs t (Some d) → (b : Bool) (s : Status) (o : Option (Ended R)) → GivenAs s o
    → GivenAs (cond b t s) (cond b (Some d) o)
end_given t d g true s o x = g
end_given t d g false s o x = x

module _ {J R : Type 0} where
  -- the status of a number that an event names
  pub named : (h : List (Event J R)) (k i : ℕ) (s : Status) → status h i ≡ s → (k == i) ≡ true → status h k ≡ s
  named h k i s is e = ap (λ m. status h m) (eqb-true k i e) ∙ is

  -- nothing happens twice to a number
  pub numbers_once : NumbersOnce J R
  numbers_once c n [] l k = first_counts (k == 0)
  numbers_once c n (Post w p i j ∷ h) l k = post_counts (k == i) _ _ _ _ (numbers_once c n h l.0 k) (named h k i Absent l.2.1)
  numbers_once c n (Claim w i j ∷ h) l k = claim_counts (k == i) w _ _ _ _ (numbers_once c n h l.0 k) (named h k i Open l.2.0)
  numbers_once c n (Return w i r ∷ h) l k =
      end_counts Returned (λ p c e x. x) (k == i) w _ _ _ _ (numbers_once c n h l.0 k) (named h k i (Claimed w) l.2)
  numbers_once c n (Fault w i r ∷ h) l k =
      end_counts Faulted (λ p c e x. x) (k == i) w _ _ _ _ (numbers_once c n h l.0 k) (named h k i (Claimed w) l.2.0)
  numbers_once c n (Over w ∷ h) l k = numbers_once c n h l.0 k

  -- an ended number has a row
  pub ended_has_row : EndedHasRow J R
  ended_has_row c n [] l k = first_given R (k == 0)
  ended_has_row c n (Post w p i j ∷ h) l k =
      step_given Open Absent (λ o x. x) (k == i) _ _ (ended_has_row c n h l.0 k) (named h k i Absent l.2.1)
  ended_has_row c n (Claim w i j ∷ h) l k =
      step_given (Claimed w) Open (λ o x. x) (k == i) _ _ (ended_has_row c n h l.0 k) (named h k i Open l.2.0)
  ended_has_row c n (Return w i r ∷ h) l k = end_given Returned (ended.Returned r) (r, refl) (k == i) _ _ (ended_has_row c n h l.0 k)
  ended_has_row c n (Fault w i r ∷ h) l k = end_given Faulted (ended.Faulted r) (r, refl) (k == i) _ _ (ended_has_row c n h l.0 k)
  ended_has_row c n (Over w ∷ h) l k = ended_has_row c n h l.0 k
