-- Histories that go on: what stays true, and that a number never goes back.
use Rattle.std.proofs.Common.{◌≡◌, ◌≢◌, ℕ, ◌≤◌, cond, List, [], ◌∷◌, ◌++◌, sym, refl, ap, ◌∙◌, subst, eq-eqb, ne_eqb, le_trans, arith}
use Rattle.std.proofs.Common.{append_assoc}
use mathlib.Core.Logic.{dite}
use native.Mathlib.Decide.{ℕ_discrete}
use Rattle.lc_board.specs.{State.{Status, Absent, Open, Claimed, Returned, Faulted, status}, Part.{worker_of, part}}
use Rattle.lc_board.specs.{LegalHistory.{IsAllowed, IsLegal}, Growth.{GoesOn, rank, put}, declared.event.Event.Event}
use Rattle.lc_board.specs.declared.event.Event.TheVariants.{Post, Claim, Return, Fault, Over}

-- what holds at an index of put
pub at_put : {A : Type 0} (s : ℕ → A) (i : ℕ) (a : A) (F : ℕ → A → Type 0) (k : ℕ) → F i a → (k ≢ i → F k (s k)) → F k (put s i a k)
at_put s i a F k here other = dite (ℕ_discrete k i)
    (λ e. subst (λ b. F k (cond b a (s k))) (sym (eq-eqb k i e)) (subst (λ z. F z a) (sym e) here))
    (λ n. subst (λ b. F k (cond b a (s k))) (sym (ne_eqb k i n)) (other n))

-- what was put at a number stands there
pub put_here : {A : Type 0} (s : ℕ → A) (i : ℕ) (a : A) → put s i a i ≡ a
put_here s i a = ap (λ b. cond b a (s i)) (eq-eqb i i refl)

-- at each other number stands what stood there
pub put_else : {A : Type 0} (s : ℕ → A) (i : ℕ) (a : A) (k : ℕ) → k ≢ i → put s i a k ≡ s k
put_else s i a k n = ap (λ b. cond b a (s k)) (ne_eqb k i n)

-- a history that goes on goes on with one event more
pub longer : {E : Type 0} (h v : List E) (e : E) → GoesOn h v → GoesOn (e ∷ h) v
longer h v e s = (e ∷ s.0, ap (λ z. e ∷ z) s.1)

-- a history goes on from itself
pub whole : {E : Type 0} (h : List E) → GoesOn h h
whole h = ([], refl)

-- what goes on from what goes on
pub goes_trans : {E : Type 0} (h g f : List E) → GoesOn h g → GoesOn g f → GoesOn h f
goes_trans h g f a b = (a.0 ++ b.0, a.1 ∙ (ap (λ z. a.0 ++ z) b.1 ∙ sym (append_assoc a.0 b.0 f)))

-- no rank is over that of an ended number
pub rank_most : (m : Status) → rank m ≤ 3
rank_most Absent = omega arith
rank_most _ = omega arith

-- the lowest rank is that of an absent number
pub rank_zero : (m : Status) → rank m ≡ 0 → m ≡ Absent
rank_zero Absent e = refl
rank_zero _ e = absurd (omega arith)

module _ {J R : Type 0} where
  -- an event of the worker is in its part
  pub part_own : (w : ℕ) (h : List (Event J R)) (e : Event J R) → worker_of e ≡ w → part w (e ∷ h) ≡ e ∷ part w h
  part_own w h e is = ap (λ b. cond b (e ∷ part w h) (part w h)) (eq-eqb (worker_of e) w is)

  -- an event of another is not
  pub part_else : (w : ℕ) (h : List (Event J R)) (e : Event J R) → worker_of e ≢ w → part w (e ∷ h) ≡ part w h
  part_else w h e is = ap (λ b. cond b (e ∷ part w h) (part w h)) (ne_eqb (worker_of e) w is)

  -- a number never goes back
  rank_after : (cap : ℕ) (h : List (Event J R)) (e : Event J R) → IsAllowed cap h e → (k : ℕ) → rank (status h k) ≤ rank (status (e ∷ h) k)
  rank_after cap h (Post w p i j) a k = at_put (status h) i Open (λ z m. z ≡ k → rank (status h k) ≤ rank m) k
      (λ e. let x = ap rank (ap (status h) (sym e) ∙ a.1) in omega arith) (λ _ _. omega arith) refl
  rank_after cap h (Claim w i j) a k = at_put (status h) i (Claimed w) (λ z m. z ≡ k → rank (status h k) ≤ rank m) k
      (λ e. let x = ap rank (ap (status h) (sym e) ∙ a.0) in omega arith) (λ _ _. omega arith) refl
  rank_after cap h (Return w i r) a k = at_put (status h) i Returned (λ z m. z ≡ k → rank (status h k) ≤ rank m) k
      (λ e. let x = ap rank (ap (status h) (sym e) ∙ a) in omega arith) (λ _ _. omega arith) refl
  rank_after cap h (Fault w i r) a k = at_put (status h) i Faulted (λ z m. z ≡ k → rank (status h k) ≤ rank m) k
      (λ e. let x = ap rank (ap (status h) (sym e) ∙ a.0) in omega arith) (λ _ _. omega arith) refl
  rank_after cap h (Over w) a k = omega arith

  rank_grows : (cap n : ℕ) (g rest : List (Event J R)) → IsLegal cap n (rest ++ g) → (k : ℕ)
      → rank (status g k) ≤ rank (status (rest ++ g) k)
  rank_grows cap n g [] l k = omega arith
  rank_grows cap n g (e ∷ rest) l k = le_trans (rank_grows cap n g rest l.0 k) (rank_after cap (rest ++ g) e l.2 k)

  legal_rest : (cap n : ℕ) (g rest : List (Event J R)) → IsLegal cap n (rest ++ g) → IsLegal cap n g
  legal_rest cap n g [] l = l
  legal_rest cap n g (e ∷ rest) l = legal_rest cap n g rest l.0

  -- what a legal history goes on from is legal
  pub legal_before : (cap n : ℕ) (h g : List (Event J R)) → IsLegal cap n h → GoesOn h g → IsLegal cap n g
  legal_before cap n h g l s = legal_rest cap n g s.0 (subst (λ z. IsLegal cap n z) s.1 l)

  -- so over many events
  pub rank_from : (cap n : ℕ) (h g : List (Event J R)) → IsLegal cap n h → GoesOn h g → (k : ℕ) → rank (status g k) ≤ rank (status h k)
  rank_from cap n h g l s k =
      subst (λ z. rank (status g k) ≤ rank (status z k)) (sym s.1) (rank_grows cap n g s.0 (subst (λ z. IsLegal cap n z) s.1 l) k)
