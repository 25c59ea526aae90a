-- A worker's part of a legal history tells which number the worker has claimed, with which job, and what it has posted under it.
use Rattle.std.proofs.Common.{◌≡◌, ◌≢◌, ℕ, ◌==◌, cond, Bool, true, false, List, [], ◌∷◌, ◌++◌, length, Some, None, refl, sym, ◌∙◌, ap}
use Rattle.std.proofs.{Common.{arith, eq-eqb, length-append}, lemmas.{Bool.eqb-true, List.nil_from_length}}
use Rattle.lc_board.specs.{State.{Status, Absent, Open, Claimed, Returned, Faulted, status}, Part.part, LegalHistory.{posts_under, IsLegal}}
use Rattle.lc_board.specs.{Holding.{holding, posted, job_held, posts_held}, RowsInPlace.job_got, Laws.{PartTellsClaim, PostedNothing}}
use Rattle.lc_board.specs.declared.event.Event.{Event, TheVariants.{Post, Claim, Return, Fault, Over}}
use Rattle.lc_board.proofs.{Places.{at_same, at_other, differ, apart}, PartsOfWhole.open_fresh}

-- what a choice by a test is, where it is not the first
unput : {A : Type 0} (b : Bool) (x y z : A) → x ≢ z → cond b x y ≡ z → (b ≡ false) × (y ≡ z)
unput true x y z n e = absurd (n e)
unput false x y z n e = (refl, e)

claimed_by : (u w : ℕ) → u ≢ w → Claimed u ≢ Claimed w
claimed_by u w n e = n (cc e)

first_none : (w : ℕ) (b : Bool) → cond b Open Absent ≢ Claimed w
first_none w true e = absurd (cc e)
first_none w false e = absurd (cc e)

module _ {J R : Type 0} where
  -- a worker's part and the whole agree on what it has claimed
  record HoldsOne (w : ℕ) (h : List (Event J R)) : Type 0 where
    pub yes : (i : ℕ) → holding (part w h) ≡ Some i → status h i ≡ Claimed w
    pub back : (i : ℕ) → status h i ≡ Claimed w → holding (part w h) ≡ Some i

  holding_same : (e : Event J R) → ((q : List (Event J R)) → holding (e ∷ q) ≡ holding q) → (b : Bool) (q : List (Event J R))
      → holding (cond b (e ∷ q) q) ≡ holding q
  holding_same e same true q = same q
  holding_same e same false q = refl

  -- the number has another status, so it is another
  other : (h : List (Event J R)) (i k : ℕ) (s t : Status) → status h i ≡ s → status h k ≡ t → s ≢ t → i ≢ k
  other h i k s t a b n e = n (sym a ∙ (ap (λ m. status h m) e ∙ b))

  one_number : (w : ℕ) (h : List (Event J R)) → HoldsOne w h → (i k : ℕ) → status h i ≡ Claimed w → status h k ≡ Claimed w → i ≡ k
  one_number w h o i k a b = let e : Some i ≡ Some k = sym (o.back i a) ∙ o.back k b in cc e

  one_post : (w u p k : ℕ) (j : J) (h : List (Event J R)) → status h k ≡ Absent → HoldsOne w h → HoldsOne w (Post u p k j ∷ h)
  one_post w u p k j h absent o =
      let same = holding_same (Post u p k j) (λ q. refl) (u == w) (part w h) in
      record {
        yes = λ i e. let was = o.yes i (sym same ∙ e) in at_other i k _ _ (other h i k _ _ was absent (λ x. absurd (cc x))) ∙ was;
        back = λ i s. let was = unput (i == k) Open (status h i) (Claimed w) (λ x. absurd (cc x)) s in same ∙ o.back i was.1;
      }

  one_claim : (w u k : ℕ) (j : J) (h : List (Event J R)) (b : Bool) → (u == w) ≡ b → status h k ≡ Open
      → ((m : ℕ) → status h m ≢ Claimed u) → HoldsOne w h
      → ((i : ℕ) → holding (cond b (Claim u k j ∷ part w h) (part w h)) ≡ Some i → status (Claim u k j ∷ h) i ≡ Claimed w)
      × ((i : ℕ) → status (Claim u k j ∷ h) i ≡ Claimed w → holding (cond b (Claim u k j ∷ part w h) (part w h)) ≡ Some i)
  one_claim w u k j h true e ready idle o =
      let uw = eqb-true u w e in (
        λ i x. let ki : k ≡ i = cc x in at_same i k _ _ (sym ki) ∙ ap Claimed uw,
        λ i s. mine i (i == k) refl s,
      )
    where
      mine : (i : ℕ) (c : Bool) → (i == k) ≡ c → cond c (Claimed u) (status h i) ≡ Claimed w → Some k ≡ Some i
      mine i true f s = ap Some (sym (eqb-true i k f))
      mine i false f s = absurd (idle i (s ∙ ap Claimed (sym (eqb-true u w e))))
  one_claim w u k j h false e ready idle o = (
    λ i x. let was = o.yes i x in at_other i k _ _ (other h i k _ _ was ready (λ y. absurd (cc y))) ∙ was,
    λ i s. let was = unput (i == k) (Claimed u) (status h i) (Claimed w) (claimed_by u w (apart u w e)) s in o.back i was.1,
  )

  -- the end of a claim, by which the number becomes x
  one_end : (x : Status) (w u k : ℕ) (e : Event J R) (h : List (Event J R)) (b : Bool) → (u == w) ≡ b → x ≢ Claimed w
      → holding (e ∷ part w h) ≡ None → status h k ≡ Claimed u → HoldsOne w h
      → ((i : ℕ) → holding (cond b (e ∷ part w h) (part w h)) ≡ Some i → cond (i == k) x (status h i) ≡ Claimed w)
      × ((i : ℕ) → cond (i == k) x (status h i) ≡ Claimed w → holding (cond b (e ∷ part w h) (part w h)) ≡ Some i)
  one_end x w u k e h true is n none held o = (
    λ i y. let z : None ≡ Some i = sym none ∙ y in absurd (cc z),
    λ i s. let was = unput (i == k) x (status h i) (Claimed w) n s in
        let same = one_number w h o i k was.1 (held ∙ ap Claimed (eqb-true u w is)) in
        absurd (differ (eq-eqb i k same) was.0),
  )
  one_end x w u k e h false is n none held o = (
    λ i y. let was = o.yes i y in at_other i k _ _ (other h i k _ _ was held (λ z. claimed_by u w (apart u w is) (sym z))) ∙ was,
    λ i s. let was = unput (i == k) x (status h i) (Claimed w) n s in o.back i was.1,
  )

  holds_one : (c n w : ℕ) (h : List (Event J R)) → IsLegal c n h → HoldsOne w h
  holds_one c n w [] l = record { yes = λ i e. absurd (cc e); back = λ i s. absurd (first_none w (i == 0) s) }
  holds_one c n w (Post u p k j ∷ h) l = one_post w u p k j h l.2.1 (holds_one c n w h l.0)
  holds_one c n w (Claim u k j ∷ h) l = let x = one_claim w u k j h (u == w) refl l.2.0 l.2.1 (holds_one c n w h l.0) in
      record { yes = x.0; back = x.1 }
  holds_one c n w (Return u k r ∷ h) l = let x = one_end Returned w u k (Return u k r) h (u == w) refl (λ y. absurd (cc y)) refl l.2
      (holds_one c n w h l.0) in record { yes = x.0; back = x.1 }
  holds_one c n w (Fault u k r ∷ h) l = let x = one_end Faulted w u k (Fault u k r) h (u == w) refl (λ y. absurd (cc y)) refl l.2.0
      (holds_one c n w h l.0) in record { yes = x.0; back = x.1 }
  holds_one c n w (Over u ∷ h) l =
      let o = holds_one c n w h l.0 in
      let same = holding_same (Over u) (λ q. refl) (u == w) (part w h) in
      record { yes = λ i e. o.yes i (sym same ∙ e); back = λ i s. same ∙ o.back i s }

  -- the worker's events m tell the job of the number and the posts under it
  abbrev Tells : List (Event J R) → ℕ → List (Event J R) → Type 0
  Tells m i h = (job_held m ≡ job_got h i) × (posts_held m ≡ posts_under i h)

  abbrev AllTold : ℕ → List (Event J R) → Type 0
  AllTold w h = (i : ℕ) → status h i ≡ Claimed w → Tells (part w h) i h

  tell_post : (w u p k : ℕ) (j : J) (h : List (Event J R)) (b : Bool) → (u == w) ≡ b → status h p ≡ Claimed u → HoldsOne w h → AllTold w h
      → (i : ℕ) → cond (i == k) Open (status h i) ≡ Claimed w → Tells (cond b (Post u p k j ∷ part w h) (part w h)) i (Post u p k j ∷ h)
  tell_post w u p k j h true e held o told i s =
      let was = unput (i == k) Open (status h i) (Claimed w) (λ x. absurd (cc x)) s in
      let same = one_number w h o i p was.1 (held ∙ ap Claimed (eqb-true u w e)) in
      let t = told i was.1 in
      (t.0, ap (λ m. m ++ (k, j) ∷ []) t.1 ∙ sym (at_same i p (posts_under i h ++ (k, j) ∷ []) (posts_under i h) same))
  tell_post w u p k j h false e held o told i s =
      let was = unput (i == k) Open (status h i) (Claimed w) (λ x. absurd (cc x)) s in
      let n : i ≢ p = other h i p _ _ was.1 held (λ z. claimed_by u w (apart u w e) (sym z)) in
      let t = told i was.1 in
      (t.0, t.1 ∙ sym (at_other i p (posts_under i h ++ (k, j) ∷ []) (posts_under i h) n))

  tell_claim : (w u k : ℕ) (j : J) (h : List (Event J R)) (b : Bool) → (u == w) ≡ b → posts_under k h ≡ []
      → ((m : ℕ) → status h m ≢ Claimed u) → AllTold w h
      → (i : ℕ) (c : Bool) → (i == k) ≡ c → cond c (Claimed u) (status h i) ≡ Claimed w
      → Tells (cond b (Claim u k j ∷ part w h) (part w h)) i (Claim u k j ∷ h)
  tell_claim w u k j h true e none idle told i true f s =
      let is = eqb-true i k f in
      (sym (at_same i k (Some j) (job_got h i) is), sym (ap (λ m. posts_under m h) is ∙ none))
  tell_claim w u k j h true e none idle told i false f s = absurd (idle i (s ∙ ap Claimed (sym (eqb-true u w e))))
  tell_claim w u k j h false e none idle told i c f s =
      let was = unput c (Claimed u) (status h i) (Claimed w) (claimed_by u w (apart u w e)) s in
      let t = told i was.1 in
      (t.0 ∙ sym (at_other i k (Some j) (job_got h i) (apart i k (f ∙ was.0))), t.1)

  tell_end : (x : Status) (w u k : ℕ) (e : Event J R) (h : List (Event J R)) (b : Bool) → (u == w) ≡ b → x ≢ Claimed w
      → status h k ≡ Claimed u → HoldsOne w h → AllTold w h
      → (i : ℕ) → cond (i == k) x (status h i) ≡ Claimed w → Tells (cond b (e ∷ part w h) (part w h)) i h
  tell_end x w u k e h true is n held o told i s =
      let was = unput (i == k) x (status h i) (Claimed w) n s in
      let same = one_number w h o i k was.1 (held ∙ ap Claimed (eqb-true u w is)) in
      absurd (differ (eq-eqb i k same) was.0)
  tell_end x w u k e h false is n held o told i s = let was = unput (i == k) x (status h i) (Claimed w) n s in told i was.1

  tell_over : (u i : ℕ) (h : List (Event J R)) (b : Bool) (q : List (Event J R)) → Tells q i h → Tells (cond b (Over u ∷ q) q) i h
  tell_over u i h true q t = t
  tell_over u i h false q t = t

  all_told : (c n w : ℕ) (h : List (Event J R)) → IsLegal c n h → AllTold w h
  all_told c n w [] l i s = absurd (first_none w (i == 0) s)
  all_told c n w (Post u p k j ∷ h) l i s = tell_post w u p k j h (u == w) refl l.2.0 (holds_one c n w h l.0) (all_told c n w h l.0) i s
  all_told c n w (Claim u k j ∷ h) l i s =
      let fresh = open_fresh c n h l.0 k l.2.0 in
      tell_claim w u k j h (u == w) refl fresh.posts l.2.1 (all_told c n w h l.0) i (i == k) refl s
  all_told c n w (Return u k r ∷ h) l i s =
      tell_end Returned w u k (Return u k r) h (u == w) refl (λ y. absurd (cc y)) l.2 (holds_one c n w h l.0) (all_told c n w h l.0) i s
  all_told c n w (Fault u k r ∷ h) l i s =
      tell_end Faulted w u k (Fault u k r) h (u == w) refl (λ y. absurd (cc y)) l.2.0 (holds_one c n w h l.0) (all_told c n w h l.0) i s
  all_told c n w (Over u ∷ h) l i s = tell_over u i h (u == w) (part w h) (all_told c n w h l.0 i s)

  posted_is : (m : List (Event J R)) → posted m ≡ length (posts_held m)
  posted_is [] = refl
  posted_is (Post w p i j ∷ m) = let rest = posted_is m in omega (arith, rest, length-append (posts_held m) ((i, j) ∷ []))
  posted_is (Over w ∷ m) = posted_is m
  posted_is (_ ∷ m) = refl

  counts_posts : (c n w : ℕ) (h : List (Event J R)) → IsLegal c n h → (i : ℕ) → status h i ≡ Claimed w
      → posted (part w h) ≡ length (posts_under i h)
  counts_posts c n w h l i s = posted_is (part w h) ∙ ap length (all_told c n w h l i s).1

  -- a worker's part tells its claim
  pub part_tells_claim : PartTellsClaim J R
  part_tells_claim c n h l w =
      let o = holds_one c n w h l in
      let told = all_told c n w h l in
      record {
        claimed = λ i. (o.yes i, o.back i);
        posts = counts_posts c n w h l;
        job_is = λ i s. (told i s).0;
        posts_are = λ i s. (told i s).1;
      }

  -- under a number that was just claimed nothing is posted
  pub posted_nothing : PostedNothing J R
  posted_nothing c n h l w i s =
      let count = counts_posts c n w h l i s in (
        λ e. nil_from_length (posts_under i h) (sym count ∙ e),
        λ e. count ∙ ap length e,
      )
