-- The definitions, computed on short histories.
use Rattle.std.proofs.Common.{◌≡◌, ◌≢◌, ℕ, ◌<◌, ◌≤◌, ◌==◌, ◌↔◌, cond, Bool, true, false, [], ◌∷◌, slice_get, refl, sym, ◌∙◌, arith}
use Rattle.std.proofs.lemmas.{Bool.ne_eqb, Option.slice_get_past}
use Rattle.lc_board.specs.{State.{Absent, Open, Claimed, Returned, Faulted, status}, LegalHistory.IsLegal, RowsInPlace.job_got}
use Rattle.lc_board.specs.{RowsInPlace.{job_posted, row_given}, Scripts.{two_workers, own_post, one_fault, two_rows, fault_row}}
use Rattle.lc_board.specs.{Scripts.ScriptsAreLegal, declared.event.Event.TheVariants.{Post, Claim, Return}}
use Rattle.lc_board.proofs.Places.{each}

-- before anything is claimed, everybody is idle
idle_first : (w : ℕ) (a : Bool) → cond a Open Absent ≢ Claimed w
idle_first w true e = absurd (cc e)
idle_first w false e = absurd (cc e)

-- while worker 0 has claimed the root and posted 1, worker 1 is idle
idle_posted : (a b : Bool) → cond b Open (cond a (Claimed 0) (cond a Open Absent)) ≢ Claimed 1
idle_posted true true e = absurd (cc e)
idle_posted true false e = absurd (cc e)
idle_posted false true e = absurd (cc e)
idle_posted false false e = absurd (cc e)

-- once the root was returned, worker 0 is idle
idle_given : (a b : Bool) → cond a Returned (cond b Open (cond a (Claimed 0) (cond a Open Absent))) ≢ Claimed 0
idle_given true true e = absurd (cc e)
idle_given true false e = absurd (cc e)
idle_given false true e = absurd (cc e)
idle_given false false e = absurd (cc e)

over_two : (a b : Bool) → let s = cond b Returned
    (cond a Returned (cond b (Claimed 1) (cond b Open (cond a (Claimed 0) (cond a Open Absent))))) in (s ≢ Open)
    × ((w : ℕ) → s ≢ Claimed w)
over_two true true = (λ e. absurd (cc e), λ w e. absurd (cc e))
over_two true false = (λ e. absurd (cc e), λ w e. absurd (cc e))
over_two false true = (λ e. absurd (cc e), λ w e. absurd (cc e))
over_two false false = (λ e. absurd (cc e), λ w e. absurd (cc e))

over_fault : (a : Bool) → let s = cond a Faulted (cond a (Claimed 0) (cond a Open Absent)) in (s ≢ Open) × ((w : ℕ) → s ≢ Claimed w)
over_fault true = (λ e. absurd (cc e), λ w e. absurd (cc e))
over_fault false = (λ e. absurd (cc e), λ w e. absurd (cc e))

-- a fact of 0, of 1 and of all other numbers
each_of_two : (P : ℕ → Type 0) → P 0 → P 1 → ((k : ℕ) → k ≢ 0 → k ≢ 1 → P k) → (k : ℕ) → P k
each_of_two P zeroth first others k =
    each P 0 zeroth (λ m n. each (λ i. i ≢ 0 → P i) 1 (λ _. first) (λ i off away. others i away off) m n) k

past_one : (k : ℕ) → k ≢ 0 → k ≢ 1 → 2 ≤ k
past_one k a b = let x : k ≢ 0 = a in let y : k ≢ 1 = b in omega (arith, x, y)

past_zero : (k : ℕ) → k ≢ 0 → 1 ≤ k
past_zero k a = let x : k ≢ 0 = a in omega (arith, x)

absent_two : (k : ℕ) → k ≢ 0 → k ≢ 1 → status two_workers k ≡ Absent
absent_two k a b = rw (ne_eqb k 0 a, ne_eqb k 1 b) refl

numbers_two : (k : ℕ) → (status two_workers k ≡ Absent) ↔ (2 ≤ k)
numbers_two = each_of_two (λ k. (status two_workers k ≡ Absent) ↔ (2 ≤ k))
    (λ e. absurd (cc e), λ low. absurd (omega (arith, low)))
    (λ e. absurd (cc e), λ low. absurd (omega (arith, low)))
    (λ k a b. (λ e. past_one k a b, λ low. absent_two k a b))

given_two : (k : ℕ) → slice_get two_rows k ≡ row_given two_workers k
given_two = each_of_two (λ k. slice_get two_rows k ≡ row_given two_workers k) refl refl
    (λ k a b. slice_get_past two_rows k (past_one k a b) ∙ sym (rw (ne_eqb k 0 a, ne_eqb k 1 b) refl))

handed_two : (k : ℕ) → job_got two_workers k ≡ job_posted {J = ℕ} {R = ℕ} 7 two_workers k
handed_two = each_of_two (λ k. job_got two_workers k ≡ job_posted {J = ℕ} {R = ℕ} 7 two_workers k) refl refl
    (λ k a b. rw (ne_eqb k 0 a, ne_eqb k 1 b) refl)

given_fault : (k : ℕ) → slice_get fault_row k ≡ row_given one_fault k
given_fault = each (λ k. slice_get fault_row k ≡ row_given one_fault k) 0 refl
    (λ k a. slice_get_past fault_row k (past_zero k a) ∙ sym (rw (ne_eqb k 0 a) refl))

handed_fault : (k : ℕ) → job_got one_fault k ≡ job_posted {J = ℕ} {R = ℕ} 7 one_fault k
handed_fault = each (λ k. job_got one_fault k ≡ job_posted {J = ℕ} {R = ℕ} 7 one_fault k) 0 refl (λ k a. rw (ne_eqb k 0 a) refl)

claimed : IsLegal {J = ℕ} {R = ℕ} 2 2 (Claim 0 0 7 ∷ [])
claimed = (tt, omega arith, (refl, λ k. idle_first 0 (k == 0)))

shared : IsLegal {J = ℕ} {R = ℕ} 2 2 (Claim 1 1 9 ∷ Post 0 0 1 9 ∷ Claim 0 0 7 ∷ [])
shared = ((claimed, omega arith, (refl, refl, omega arith, omega arith)), omega arith, (refl, λ k. idle_posted (k == 0) (k == 1)))

returned : IsLegal {J = ℕ} {R = ℕ} 2 2 (Return 1 1 11 ∷ Return 0 0 10 ∷ Claim 1 1 9 ∷ Post 0 0 1 9 ∷ Claim 0 0 7 ∷ [])
returned = ((shared, omega arith, refl), omega arith, refl)

two_legal : IsLegal 2 2 two_workers
two_legal = ((returned, omega arith, λ k. over_two (k == 0) (k == 1)), omega arith, λ k. over_two (k == 0) (k == 1))

alone : IsLegal {J = ℕ} {R = ℕ} 2 1 (Claim 0 0 7 ∷ [])
alone = (tt, omega arith, (refl, λ k. idle_first 0 (k == 0)))

own_legal : IsLegal 2 1 own_post
own_legal = (
  ((alone, omega arith, (refl, refl, omega arith, omega arith)), omega arith, refl),
  omega arith,
  (refl, λ k. idle_given (k == 0) (k == 1)),
)

fault_legal : IsLegal 1 1 one_fault
fault_legal = (((tt, omega arith, (refl, λ k. idle_first 0 (k == 0))), omega arith, (refl, refl)), omega arith, λ k. over_fault (k == 0))

-- the scripts of the tests are legal histories, by computation
pub scripts_are_legal : ScriptsAreLegal
scripts_are_legal = record {
  two_legal = two_legal;
  two_over = λ k. over_two (k == 0) (k == 1);
  two_numbers = numbers_two;
  two_parts = (refl, refl);
  two_posts = refl;
  two_placed = record { given = given_two; handed = λ k e at. handed_two k };
  own_legal = own_legal;
  own_holding = (refl, refl);
  own_held = (refl, refl);
  posting_held = (refl, refl, refl);
  fault_legal = fault_legal;
  fault_placed = record { given = given_fault; handed = λ k e at. handed_fault k };
  no_second_claim = λ l. let e : Claimed 0 ≡ Open = l.2.0 in absurd (cc e);
  no_late_fault = λ l. absurd (cc l.2.1);
  no_number_beyond = λ l. let low : 1 < 1 = l.2.2 in absurd (omega (arith, low));
}
