-- Passes that come back from their workers, in order.
use Rattle.std.proofs.Common.{◌≡◌, ℕ, zero, suc, ◌<◌, List, [], ◌∷◌, length, map, slice_get, slice_set, slice_index_or, Some, refl, ◌∙◌, ap}
use Rattle.std.proofs.{Common.{subst, arith}, lemmas.Option.{slice_get_within, get_or_from_slice_get, slice_get-get_or}}
use Rattle.lc_board.specs.Pass.{Pass, new_pass}
use Rattle.lc_board.proofs.Places.{each_set}

-- what lies at a place of a mapped list comes from what lies there
pub mapped_from : {A B : Type 0} (f : A → B) (xs : List A) (i : ℕ) (y : B) → slice_get (map f xs) i ≡ Some y
    → (x : A) × (slice_get xs i ≡ Some x) × (f x ≡ y)
mapped_from f [] i y e = absurd (cc e)
mapped_from f (x ∷ xs) zero y e = (x, refl, cc e)
mapped_from f (x ∷ xs) (suc i) y e = mapped_from f xs i y e

-- What comes back from each worker has its pass in it, as `pass` says. Each pass is the board's, and its worker's, where the passes were
-- new and no call changed the worker
pub still_in_order : {J R P Q : Type 0} (view : P → Pass J R) (owns : P → Type 0) (pass : Q → P) (ps : List P) (back : List Q)
    → length back ≡ length ps
    → ((w : ℕ) (p : P) → slice_get ps w ≡ Some p → owns p × (view p ≡ new_pass w))
    → ((w : ℕ) (p : P) (q : Q) → w < length ps
    → owns (pass (slice_index_or back w q)) × ((view (pass (slice_index_or back w q))).worker
    ≡ (view (slice_index_or ps w p)).worker))
    → (w : ℕ) (q : Q) → slice_get back w ≡ Some q → owns (pass q) × ((view (pass q)).worker ≡ w)
still_in_order view owns pass ps back len started ran w q at =
    let low = slice_get_within back w q at in
    let inside : w < length ps = omega (arith, low, len) in
    let p = pass q in
    let one = ran w p q inside in
    let first = started w _ (slice_get-get_or ps w p inside) in
    subst (λ x. owns (pass x) × ((view (pass x)).worker ≡ w)) (get_or_from_slice_get back w q q at)
    (one.0, one.1 ∙ ap (λ (v : Pass _ _). v.worker) first.1)

-- and so are the passes alone, once they are taken out
pub taken_in_order : {J R P Q : Type 0} (view : P → Pass J R) (owns : P → Type 0) (pass : Q → P) (back : List Q)
    → ((w : ℕ) (q : Q) → slice_get back w ≡ Some q → owns (pass q) × ((view (pass q)).worker ≡ w))
    → (w : ℕ) (p : P) → slice_get (map pass back) w ≡ Some p → owns p × ((view p).worker ≡ w)
taken_in_order view owns pass back each w p at =
    let q = mapped_from pass back w p at in
    subst (λ x. owns x × ((view x).worker ≡ w)) q.2 (each w q.0 q.1)

-- and so they are where one of them made a call, which left it the board's and its worker's
pub used_in_order : {J R P : Type 0} (view : P → Pass J R) (owns : P → Type 0) (ps : List P) (i : ℕ) (old new : P)
    → slice_get ps i ≡ Some old
    → ((w : ℕ) (p : P) → slice_get ps w ≡ Some p → owns p × ((view p).worker ≡ w)) → owns new → (view new).worker ≡ (view old).worker
    → (w : ℕ) (p : P) → slice_get (slice_set ps i new) w ≡ Some p → owns p × ((view p).worker ≡ w)
used_in_order {P = P} view owns ps i old new here each own same =
    each_set (λ w o. (p : P) → o ≡ Some p → owns p × ((view p).worker ≡ w)) ps i new (slice_get_within ps i old here)
    (λ p e. let is : new ≡ p = cc e in subst (λ q. owns q × ((view q).worker ≡ i)) is (own, same ∙ (each i old here).1))
    (λ w _. each w)
