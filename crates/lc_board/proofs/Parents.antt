-- Each number of a legal history but 0 was posted under exactly one number, once.
use Rattle.std.proofs.Common.{◌≡◌, ◌≢◌, ℕ, ◌<◌, ◌==◌, Bool, true, false, cond, List, [], ◌∷◌, ◌++◌, refl, sym, ◌∙◌, ap, arith, subst, ◌⊎◌}
use Rattle.std.proofs.{Common.{inl, inr, eq-eqb}, lemmas.Bool.eqb-true}
use Rattle.std.specs.List.{AllByRecursion}
use Rattle.lc_board.specs.{State.{Absent, Open, Claimed, status}, LegalHistory.{posts_under, IsLegal}, declared.event.Event.Event}
use Rattle.lc_board.specs.declared.event.Event.TheVariants.{Post}
use Rattle.lc_board.proofs.PostedNumbers.{start_is, persist, was_there, Known, known}

-- the number was posted
abbrev pub IsIn : {J : Type 0} → ℕ → List (ℕ × J) → Type 0
IsIn k [] = ⊥
IsIn k (c ∷ cs) = (c.0 ≡ k) ⊎ IsIn k cs

in_left : {J : Type 0} (k : ℕ) (xs ys : List (ℕ × J)) → IsIn k xs → IsIn k (xs ++ ys)
in_left k [] ys i = absurd i
in_left k (x ∷ xs) ys (inl e) = inl e
in_left k (x ∷ xs) ys (inr i) = inr (in_left k xs ys i)

in_right : {J : Type 0} (k : ℕ) (xs ys : List (ℕ × J)) → IsIn k ys → IsIn k (xs ++ ys)
in_right k [] ys i = i
in_right k (x ∷ xs) ys i = inr (in_right k xs ys i)

in_either : {J : Type 0} (k : ℕ) (xs : List (ℕ × J)) (y : ℕ × J) → IsIn k (xs ++ y ∷ []) → IsIn k xs ⊎ (y.0 ≡ k)
in_either k [] y (inl e) = inr e
in_either k [] y (inr i) = absurd i
in_either k (x ∷ xs) y (inl e) = inl (inl e)
in_either k (x ∷ xs) y (inr i) = at (in_either k xs y i)
  where
    at : IsIn k xs ⊎ (y.0 ≡ k) → IsIn k (x ∷ xs) ⊎ (y.0 ≡ k)
    at (inl j) = inl (inr j)
    at (inr e) = inr e

-- what holds of all posts holds of that of a number
pub each_in : {J : Type 0} (P : (ℕ × J) → Type 0) (k : ℕ) (cs : List (ℕ × J)) → AllByRecursion P cs → IsIn k cs
    → (c : ℕ × J) × P c × (c.0 ≡ k)
each_in P k [] a i = absurd i
each_in P k (c ∷ cs) a (inl e) = (c, a.0, e)
each_in P k (c ∷ cs) a (inr i) = each_in P k cs a.1 i

-- no number stands twice
abbrev pub IsOnce : {J : Type 0} → List (ℕ × J) → Type 0
IsOnce [] = Unit {0}
IsOnce (p ∷ ps) = (¬ IsIn p.0 ps) × IsOnce ps

once_more : {J : Type 0} (xs : List (ℕ × J)) (y : ℕ × J) → IsOnce xs → ¬ IsIn y.0 xs → IsOnce (xs ++ y ∷ [])
once_more [] y o n = (λ i. i, tt)
once_more (x ∷ xs) y o n = (λ i. at (in_either x.0 xs y i), once_more xs y o.1 (λ i. n (inr i)))
  where
    at : IsIn x.0 xs ⊎ (y.0 ≡ x.0) → ⊥
    at (inl i) = o.0 i
    at (inr e) = n (inl (sym e))

once_cond : {J : Type 0} (b : Bool) (xs : List (ℕ × J)) (y : ℕ × J) → IsOnce xs → ¬ IsIn y.0 xs → IsOnce (cond b (xs ++ y ∷ []) xs)
once_cond true xs y o n = once_more xs y o n
once_cond false xs y o n = o

in_cond : {J : Type 0} (b : Bool) (k : ℕ) (xs : List (ℕ × J)) (x : ℕ × J) → IsIn k xs → IsIn k (cond b (xs ++ x ∷ []) xs)
in_cond true k xs x i = in_left k xs (x ∷ []) i
in_cond false k xs x i = i

in_last : {J : Type 0} (b : Bool) (xs : List (ℕ × J)) (k : ℕ) (j : J) → b ≡ true → IsIn k (cond b (xs ++ (k, j) ∷ []) xs)
in_last true xs k j e = in_right k xs ((k, j) ∷ []) (inl refl)
in_last false xs k j e = cc

out_cond : {J : Type 0} (b : Bool) (k : ℕ) (xs : List (ℕ × J)) (y : ℕ × J) → IsIn k (cond b (xs ++ y ∷ []) xs)
    → IsIn k xs ⊎ ((y.0 ≡ k) × (b ≡ true))
out_cond true k xs y i = at (in_either k xs y i)
  where
    at : IsIn k xs ⊎ (y.0 ≡ k) → IsIn k xs ⊎ ((y.0 ≡ k) × (true ≡ true))
    at (inl j) = inl j
    at (inr e) = inr (e, refl)
out_cond false k xs y i = inl i

module _ {J R : Type 0} where
  -- a number that was posted is there
  pub posted_there : (c n : ℕ) (top : J) (h : List (Event J R)) → IsLegal c n h → (p k : ℕ) → IsIn k (posts_under p h) → status h k ≢ Absent
  posted_there c n top h l p k i =
      let r = each_in (Known c top h p) k (posts_under p h) (known c n top h l p) i in
      λ a. r.1.there (ap (λ x. status h x) r.2 ∙ a)

  -- a number is posted under a lower one
  pub posted_above : (c n : ℕ) (top : J) (h : List (Event J R)) → IsLegal c n h → (p k : ℕ) → IsIn k (posts_under p h) → p < k
  posted_above c n top h l p k i =
      let r = each_in (Known c top h p) k (posts_under p h) (known c n top h l p) i in
      let up : p < r.0.0 = r.1.above in
      let same : r.0.0 ≡ k = r.2 in
      omega arith

  -- under one number each is posted once
  pub posts_once : (c n : ℕ) (top : J) (h : List (Event J R)) → IsLegal c n h → (p : ℕ) → IsOnce (posts_under p h)
  posts_once c n top [] l p = tt
  posts_once c n top (Post w q i j ∷ h) l p =
      once_cond (p == q) (posts_under p h) (i, j) (posts_once c n top h l.0 p) (λ x. posted_there c n top h l.0 p i x l.2.1)
  posts_once c n top (_ ∷ h) l p = posts_once c n top h l.0 p

  -- and under no other number
  pub one_parent : (c n : ℕ) (top : J) (h : List (Event J R)) → IsLegal c n h → (p q k : ℕ) → IsIn k (posts_under p h)
      → IsIn k (posts_under q h) → p ≡ q
  one_parent c n top [] l p q k a b = absurd a
  one_parent c n top (Post w r i j ∷ h) l p q k a b = at (one_parent c n top h l.0 p q k)
      (out_cond (p == r) k (posts_under p h) (i, j) a) (out_cond (q == r) k (posts_under q h) (i, j) b)
    where
      never : (x : ℕ) → IsIn k (posts_under x h) → i ≡ k → ⊥
      never x y e = posted_there c n top h l.0 x k y (ap (λ z. status h z) (sym e) ∙ l.2.1)

      at : (IsIn k (posts_under p h) → IsIn k (posts_under q h) → p ≡ q) →
          IsIn k (posts_under p h) ⊎ ((i ≡ k) × ((p == r) ≡ true)) → IsIn k (posts_under q h) ⊎ ((i ≡ k) × ((q == r) ≡ true)) → p ≡ q
      at rec (inl x) (inl y) = rec x y
      at rec (inl x) (inr y) = absurd (never p x y.0)
      at rec (inr x) (inl y) = absurd (never q y x.0)
      at rec (inr x) (inr y) = eqb-true p r x.1 ∙ sym (eqb-true q r y.1)
  one_parent c n top (_ ∷ h) l p q k a b = one_parent c n top h l.0 p q k a b

  -- 0, or posted under a number that is there
  abbrev pub HasParent : List (Event J R) → ℕ → Type 0
  HasParent h k = (k ≡ 0) ⊎ ((p : ℕ) × (status h p ≢ Absent) × IsIn k (posts_under p h))

  keep_parent : (h : List (Event J R)) (e : Event J R) (k : ℕ) → ((p : ℕ) → IsIn k (posts_under p h) → IsIn k (posts_under p (e ∷ h)))
      → HasParent h k → HasParent (e ∷ h) k
  keep_parent h e k f (inl z) = inl z
  keep_parent h e k f (inr p) = inr (p.0, λ a. p.1 (persist e h p.0 a), f p.0 p.2)

  -- a number that is not absent has one above it, but for 0
  pub parent : (c n : ℕ) (h : List (Event J R)) → IsLegal c n h → (k : ℕ) → status h k ≢ Absent → HasParent h k
  parent c n [] l k a = inl (eqb-true k 0 (start_is (k == 0) a))
  parent c n (Post w q i j ∷ h) l k a = at (parent c n h l.0 k) (k == i) refl a
    where
      at : (status h k ≢ Absent → HasParent h k) → (b : Bool) → (k == i) ≡ b → cond b Open (status h k) ≢ Absent
          → HasParent (Post w q i j ∷ h) k
      at rec true e a =
          subst (HasParent (Post w q i j ∷ h)) (sym (eqb-true k i e))
          (inr (
            q,
            λ x. (let was : status h q ≡ Claimed w = l.2.0 in let gone = persist (Post w q i j) h q x in cc),
            in_last (q == q)
                (posts_under q h) i j (eq-eqb q q refl),
          ))
      at rec false e a = keep_parent h (Post w q i j) k (λ p x. in_cond (p == q) k (posts_under p h) (i, j) x) (rec a)
  parent c n (e ∷ h) l k a = keep_parent h e k (λ p x. x) (parent c n h l.0 k (was_there c n h e l k a refl))
