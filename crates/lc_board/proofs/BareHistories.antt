-- What a history says without its values.
use Rattle.std.proofs.Common.{◌≡◌, ℕ, ◌<◌, ◌==◌, cond, Bool, true, false, List, [], ◌∷◌, ◌++◌, map, refl, sym, ◌∙◌, ap, subst}
use Rattle.std.proofs.lemmas.List.{map-append}
use Rattle.lc_board.specs.{State.{Open, Claimed, Returned, Faulted, status}, Part.{part, worker_of}}
use Rattle.lc_board.specs.{LegalHistory.{posts_under, IsAllowed, IsLegal}, Bare.{bare, BareEvent}, declared.event.Event.Event}
use Rattle.lc_board.specs.declared.event.Event.TheVariants.{Post, Claim, Return, Fault, Over}

module _ {J : Type 0} where
  abbrev numbered : ℕ × J → ℕ × Unit {0}
  numbered x = (x.0, tt)

  more_posts : (b : Bool) (xs : List (ℕ × J)) (ys : List (ℕ × Unit {0})) (i : ℕ) (j : J) → map numbered xs ≡ ys
      → map numbered (cond b (xs ++ (i, j) ∷ []) xs) ≡ cond b (ys ++ (i, tt) ∷ []) ys
  more_posts true xs ys i j e = map-append numbered xs ((i, j) ∷ []) ∙ ap (λ (zs : List (ℕ × Unit {0})). zs ++ (i, tt) ∷ []) e
  more_posts false xs ys i j e = e

  none_numbered : (xs : List (ℕ × J)) → map numbered xs ≡ [] → xs ≡ []
  none_numbered [] e = refl
  none_numbered (x ∷ xs) e = absurd (cc e)

module _ {J R : Type 0} where
  -- an event without its values is of the same worker
  pub worker_bare : (e : Event J R) → worker_of (bare e) ≡ worker_of e
  worker_bare (Post w p i j) = refl
  worker_bare _ = refl

  -- values say nothing of a number's status
  pub status_bare : (h : List (Event J R)) (k : ℕ) → status (map bare h) k ≡ status h k
  status_bare [] k = refl
  status_bare (Post w p i j ∷ h) k = ap (λ s. cond (k == i) Open s) (status_bare h k)
  status_bare (Claim w i j ∷ h) k = ap (λ s. cond (k == i) (Claimed w) s) (status_bare h k)
  status_bare (Return w i r ∷ h) k = ap (λ s. cond (k == i) Returned s) (status_bare h k)
  status_bare (Fault w i r ∷ h) k = ap (λ s. cond (k == i) Faulted s) (status_bare h k)
  status_bare (Over w ∷ h) k = status_bare h k

  -- nor of what was posted under it
  pub posts_bare : (p : ℕ) (h : List (Event J R)) → map numbered (posts_under p h) ≡ posts_under p (map bare h)
  posts_bare p [] = refl
  posts_bare p (Post w q i j ∷ h) = more_posts (p == q) (posts_under p h) (posts_under p (map bare h)) i j (posts_bare p h)
  posts_bare p (_ ∷ h) = posts_bare p h

  allowed_bare : (c : ℕ) (h : List (Event J R)) (e : Event J R) → IsAllowed c h e → IsAllowed c (map bare h) (bare e)
  allowed_bare c h (Post w p i j) a = (status_bare h p ∙ a.0, status_bare h i ∙ a.1, a.2, a.3)
  allowed_bare c h (Claim w i j) a = (status_bare h i ∙ a.0, λ k s. a.1 k (sym (status_bare h k) ∙ s))
  allowed_bare c h (Return w i r) a = status_bare h i ∙ a
  allowed_bare c h (Fault w i r) a = (status_bare h i ∙ a.0, sym (posts_bare i h) ∙ ap (map numbered) a.1)
  allowed_bare c h (Over w) a = λ k. (λ s. (a k).0 (sym (status_bare h k) ∙ s), λ v s. (a k).1 v (sym (status_bare h k) ∙ s))

  allowed_back : (c : ℕ) (h : List (Event J R)) (e : Event J R) → IsAllowed c (map bare h) (bare e) → IsAllowed c h e
  allowed_back c h (Post w p i j) a = (sym (status_bare h p) ∙ a.0, sym (status_bare h i) ∙ a.1, a.2, a.3)
  allowed_back c h (Claim w i j) a = (sym (status_bare h i) ∙ a.0, λ k s. a.1 k (status_bare h k ∙ s))
  allowed_back c h (Return w i r) a = sym (status_bare h i) ∙ a
  allowed_back c h (Fault w i r) a = (sym (status_bare h i) ∙ a.0, none_numbered (posts_under i h) (posts_bare i h ∙ a.1))
  allowed_back c h (Over w) a = λ k. (λ s. (a k).0 (status_bare h k ∙ s), λ v s. (a k).1 v (status_bare h k ∙ s))

  -- a legal history is legal without its values
  pub legal_bare : (c n : ℕ) (h : List (Event J R)) → IsLegal c n h → IsLegal c n (map bare h)
  legal_bare c n [] l = tt
  legal_bare c n (e ∷ h) l = (legal_bare c n h l.0, subst (λ w. w < n) (sym (worker_bare e)) l.1, allowed_bare c h e l.2)

  -- a history is legal if it is so without its values
  pub legal_back : (c n : ℕ) (h : List (Event J R)) → IsLegal c n (map bare h) → IsLegal c n h
  legal_back c n [] l = tt
  legal_back c n (e ∷ h) l = (legal_back c n h l.0, subst (λ w. w < n) (worker_bare e) l.1, allowed_back c h e l.2)

  more_part : (a b : Bool) (e : Event J R) (xs : List (Event J R)) (ys : List BareEvent) → a ≡ b → ys ≡ map bare xs
      → cond a (bare e ∷ ys) ys ≡ map bare (cond b (e ∷ xs) xs)
  more_part a true e xs ys s t = ap (λ q. cond q (bare e ∷ ys) ys) s ∙ ap (λ zs. bare e ∷ zs) t
  more_part a false e xs ys s t = ap (λ q. cond q (bare e ∷ ys) ys) s ∙ t

  -- a worker's part without values is the part of the history without them
  pub part_bare : (w : ℕ) (h : List (Event J R)) → part w (map bare h) ≡ map bare (part w h)
  part_bare w [] = refl
  part_bare w (e ∷ h) = more_part (worker_of (bare e) == w) (worker_of e == w) e (part w h) (part w (map bare h))
      (ap (λ v. v == w) (worker_bare e)) (part_bare w h)
