-- What a worker's part says of a number that the worker claimed is what the whole history says.
use Rattle.std.proofs.Common.{◌≡◌, ◌≢◌, ℕ, ◌<◌, ◌==◌, cond, Bool, true, false, List, [], ◌∷◌, ◌++◌, Some, None, refl, sym, ◌∙◌, ap, subst}
use Rattle.std.proofs.{Common.{arith, eq-eqb}, lemmas.Bool.{eqb-true, ne_eqb}}
use Rattle.lc_board.specs.{State.{Status, Absent, Open, Claimed, Returned, Faulted, status}, Part.{worker_of, part}}
use Rattle.lc_board.specs.{LegalHistory.{posts_under, IsLegal}, RowsInPlace.{job_got, row_given}, Laws.{IsFresh, SaysSame, PartSaysWhole}}
use Rattle.lc_board.specs.declared.{event.Event.{Event, TheVariants.{Post, Claim, Return, Fault, Over}}, answers.Ended.Ended}
use Rattle.lc_board.specs.declared.answers.Ended.TheVariants as ended
use Rattle.lc_board.proofs.{Places.{at_same, at_other, apart}, Growths.part_own}

module _ {J R : Type 0} where
  -- the event says nothing of the number
  record IsOff (e : Event J R) (i : ℕ) : Type 0 where
    pub posts : (h : List (Event J R)) → posts_under i (e ∷ h) ≡ posts_under i h
    pub got : (h : List (Event J R)) → job_got (e ∷ h) i ≡ job_got h i
    pub given : (h : List (Event J R)) → row_given (e ∷ h) i ≡ row_given h i

  keeps : (e : Event J R) (i : ℕ) → IsOff e i → (b : Bool) (q : List (Event J R)) → SaysSame i q (cond b (e ∷ q) q)
  keeps e i off true q = record { posts = off.posts q; got = off.got q; given = off.given q }
  keeps e i off false q = record { posts = refl; got = refl; given = refl }

  -- nothing was done with the number, in the whole or in a part
  record IsUntouched (i : ℕ) (h : List (Event J R)) : Type 0 where
    pub whole : IsFresh i h
    pub parts : (v : ℕ) → IsFresh i (part v h)

  -- one worker claimed the number, and no other
  record IsTaken (w i : ℕ) (h : List (Event J R)) : Type 0 where
    pub own : SaysSame i h (part w h)
    pub others : (v : ℕ) → v ≢ w → job_got (part v h) i ≡ None

  abbrev Taker : Status → ℕ → List (Event J R) → Type 0
  Taker (Claimed w) i h = IsTaken w i h
  Taker Returned i h = (w : ℕ) × IsTaken w i h
  Taker Faulted i h = (w : ℕ) × IsTaken w i h
  Taker _ i h = IsUntouched i h

  fresh_same : (i : ℕ) (h g : List (Event J R)) → SaysSame i h g → IsFresh i h → IsFresh i g
  fresh_same i h g s f = record { posts = s.posts ∙ f.posts; got = s.got ∙ f.got; given = s.given ∙ f.given }

  untouched_off : (e : Event J R) (i : ℕ) (h : List (Event J R)) → IsOff e i → IsUntouched i h → IsUntouched i (e ∷ h)
  untouched_off e i h off u = record {
    whole = fresh_same i h (e ∷ h) (keeps e i off true h) u.whole;
    parts = λ v. fresh_same i (part v h) (part v (e ∷ h)) (keeps e i off (worker_of e == v) (part v h)) (u.parts v);
  }

  taken_off : (e : Event J R) (w i : ℕ) (h : List (Event J R)) → IsOff e i → IsTaken w i h → IsTaken w i (e ∷ h)
  taken_off e w i h off t =
      let more : (v : ℕ) → SaysSame i (part v h) (part v (e ∷ h)) = λ v. keeps e i off (worker_of e == v) (part v h) in
      let mine = more w in
      record {
        own = record {
          posts = mine.posts ∙ (t.own.posts ∙ sym (off.posts h));
          got = mine.got ∙ (t.own.got ∙ sym (off.got h));
          given = mine.given ∙ (t.own.given ∙ sym (off.given h));
        };
        others = λ v n. let its = more v in its.got ∙ t.others v n;
      }

  taker_off : (e : Event J R) (s : Status) (i : ℕ) (h : List (Event J R)) → IsOff e i → Taker s i h → Taker s i (e ∷ h)
  taker_off e (Claimed w) i h off t = taken_off e w i h off t
  taker_off e Returned i h off t = (t.0, taken_off e t.0 i h off t.1)
  taker_off e Faulted i h off t = (t.0, taken_off e t.0 i h off t.1)
  taker_off e _ i h off t = untouched_off e i h off t

  post_off : (w p k i : ℕ) (j : J) → i ≢ p → IsOff (Post w p k j) i
  post_off w p k i j n = record { posts = λ h. at_other i p _ _ n; got = λ h. refl; given = λ h. refl }

  claim_off : (w k i : ℕ) (j : J) → i ≢ k → IsOff (Claim w k j) i
  claim_off w k i j n = record { posts = λ h. refl; got = λ h. at_other i k _ _ n; given = λ h. refl }

  -- events that give nobody a job
  got_same : (e : Event J R) (i : ℕ) → ((q : List (Event J R)) → job_got (e ∷ q) i ≡ job_got q i) → (b : Bool) (q : List (Event J R))
      → job_got (cond b (e ∷ q) q) i ≡ job_got q i
  got_same e i none true q = none q
  got_same e i none false q = refl

  post_under : (w p k : ℕ) (j : J) (h : List (Event J R)) → IsTaken w p h → IsTaken w p (Post w p k j ∷ h)
  post_under w p k j h t = record {
    own = rw (eq-eqb w w refl) (record {
      posts = rw (eq-eqb p p refl) (ap (λ (xs : List (ℕ × J)). xs ++ (k, j) ∷ []) t.own.posts);
      got = t.own.got;
      given = t.own.given;
    });
    others = λ v n. got_same (Post w p k j) p (λ q. refl) (w == v) (part v h) ∙ t.others v n;
  }

  claim_here : (w k : ℕ) (j : J) (h : List (Event J R)) → IsUntouched k h → IsTaken w k (Claim w k j ∷ h)
  claim_here w k j h u = record {
    own = let mine = u.parts w in
        rw (eq-eqb w w refl) (record {
          posts = mine.posts ∙ sym u.whole.posts;
          got = rw (eq-eqb k k refl) refl;
          given = mine.given
              ∙ sym u.whole.given;
        });
    others = λ v n. let its = u.parts v in rw (ne_eqb w v (λ e. n (sym e))) its.got;
  }

  row_here : (w k : ℕ) (e : Event J R) (d : Ended R) (h : List (Event J R)) → worker_of e ≡ w
      → ((g : List (Event J R)) → posts_under k (e ∷ g) ≡ posts_under k g) → ((g : List (Event J R)) → job_got (e ∷ g) k ≡ job_got g k)
      → ((g : List (Event J R)) → row_given (e ∷ g) k ≡ Some d) → IsTaken w k h → IsTaken w k (e ∷ h)
  row_here w k e d h by posts got given t = record {
    own = subst (SaysSame k (e ∷ h)) (sym (part_own w h e by)) (record {
      posts = posts (part w h) ∙ (t.own.posts ∙ sym (posts h));
      got = got (part w h) ∙ (t.own.got ∙ sym (got h));
      given = given (part w h) ∙ sym (given h);
    });
    others = λ v n. got_same e k got (worker_of e == v) (part v h) ∙ t.others v n;
  }

  -- the number that an event names
  at_post : (w p k i : ℕ) (j : J) (h : List (Event J R)) (b c : Bool) → (i == k) ≡ b → (i == p) ≡ c → status h p ≡ Claimed w
      → status h k ≡ Absent → p < k → Taker (status h i) i h
      → Taker (cond b Open (status h i)) i (Post w p k j ∷ h)
  at_post w p k i j h true c e f parent absent less t =
      let n : i ≢ p = λ ip. absurd (omega (arith, less, eqb-true i k e, ip)) in
      let was : status h i ≡ Absent = ap (λ m. status h m) (eqb-true i k e) ∙ absent in
      let u : IsUntouched i h = subst (λ s. Taker s i h) was t in
      untouched_off (Post w p k j) i h (post_off w p k i j n) u
  at_post w p k i j h false true e f parent absent less t =
      let was : status h i ≡ Claimed w = ap (λ m. status h m) (eqb-true i p f) ∙ parent in
      let own : IsTaken w i h = subst (λ s. Taker s i h) was t in
      let there : IsTaken w p (Post w p k j ∷ h) = post_under w p k j h (subst (λ m. IsTaken w m h) (eqb-true i p f) own) in
      subst (λ s. Taker s i (Post w p k j ∷ h)) (sym was) (subst (λ m. IsTaken w m (Post w p k j ∷ h)) (sym (eqb-true i p f)) there)
  at_post w p k i j h false false e f parent absent less t = taker_off (Post w p k j) (status h i) i h (post_off w p k i j (apart i p f)) t

  at_claim : (w k i : ℕ) (j : J) (h : List (Event J R)) (b : Bool) → (i == k) ≡ b → status h k ≡ Open → Taker (status h i) i h
      → Taker (cond b (Claimed w) (status h i)) i (Claim w k j ∷ h)
  at_claim w k i j h true e ready t =
      let was : status h i ≡ Open = ap (λ m. status h m) (eqb-true i k e) ∙ ready in
      let u : IsUntouched i h = subst (λ s. Taker s i h) was t in
      subst (λ m. IsTaken w m (Claim w k j ∷ h)) (sym (eqb-true i k e))
      (claim_here w k j h (subst (λ m. IsUntouched m h) (eqb-true i k e) u))
  at_claim w k i j h false e ready t = taker_off (Claim w k j) (status h i) i h (claim_off w k i j (apart i k e)) t

  -- an end, by which the number becomes s
  at_end : (s : Status) (w k i : ℕ) (e : Event J R) (h : List (Event J R)) (b : Bool) → (i == k) ≡ b → status h k ≡ Claimed w
      → (i ≢ k → IsOff e i) → (IsTaken w k h → IsTaken w k (e ∷ h)) → (IsTaken w i (e ∷ h) → Taker s i (e ∷ h)) → Taker (status h i) i h
      → Taker (cond b s (status h i)) i (e ∷ h)
  at_end s w k i e h true is held off here says t =
      let was : status h i ≡ Claimed w = ap (λ m. status h m) (eqb-true i k is) ∙ held in
      let own : IsTaken w i h = subst (λ s. Taker s i h) was t in
      says (subst (λ m. IsTaken w m (e ∷ h)) (sym (eqb-true i k is)) (here (subst (λ m. IsTaken w m h) (eqb-true i k is) own)))
  at_end s w k i e h false is held off here says t = taker_off e (status h i) i h (off (apart i k is)) t

  taker_first : (h : List (Event J R)) (i : ℕ) (b : Bool) → IsUntouched i h → Taker (cond b Open Absent) i h
  taker_first h i true u = u
  taker_first h i false u = u

  taker : (c n : ℕ) (h : List (Event J R)) → IsLegal c n h → (i : ℕ) → Taker (status h i) i h
  taker c n [] l i =
      taker_first [] i (i == 0)
      (record { whole = record { posts = refl; got = refl; given = refl }; parts = λ v. record { posts = refl; got = refl; given = refl } })
  taker c n (Post w p k j ∷ h) l i = at_post w p k i j h (i == k) (i == p) refl refl l.2.0 l.2.1 l.2.3 (taker c n h l.0 i)
  taker c n (Claim w k j ∷ h) l i = at_claim w k i j h (i == k) refl l.2.0 (taker c n h l.0 i)
  taker c n (Return w k r ∷ h) l i = at_end Returned w k i (Return w k r) h (i == k) refl l.2
      (λ n. record { posts = λ h. refl; got = λ h. refl; given = λ h. at_other i k _ _ n })
      (row_here w k (Return w k r) (ended.Returned r) h refl (λ g. refl) (λ g. refl) (λ g. at_same k k _ _ refl))
      (λ t. (w, t)) (taker c n h l.0 i)
  taker c n (Fault w k r ∷ h) l i = at_end Faulted w k i (Fault w k r) h (i == k) refl l.2.0
      (λ n. record { posts = λ h. refl; got = λ h. refl; given = λ h. at_other i k _ _ n })
      (row_here w k (Fault w k r) (ended.Faulted r) h refl (λ g. refl) (λ g. refl) (λ g. at_same k k _ _ refl))
      (λ t. (w, t)) (taker c n h l.0 i)
  taker c n (Over w ∷ h) l i = taker_off (Over w) (status h i) i h (record { posts = λ q. refl; got = λ q. refl; given = λ q. refl })
      (taker c n h l.0 i)

  -- nothing was posted under a number that is open
  pub open_fresh : (c n : ℕ) (h : List (Event J R)) → IsLegal c n h → (i : ℕ) → status h i ≡ Open → IsFresh i h
  open_fresh c n h l i ready = let u : IsUntouched i h = subst (λ s. Taker s i h) ready (taker c n h l i) in u.whole

  untouched_none : (i w : ℕ) (j : J) (h : List (Event J R)) → IsUntouched i h → job_got (part w h) i ≡ Some j → ⊥
  untouched_none i w j h u e = let its = u.parts w in let x : None ≡ Some j = sym its.got ∙ e in absurd (cc x)

  taken_says : (v i w : ℕ) (j : J) (h : List (Event J R)) (b : Bool) → (w == v) ≡ b → IsTaken v i h → job_got (part w h) i ≡ Some j
      → SaysSame i h (part w h)
  taken_says v i w j h true e t got = subst (λ u. SaysSame i h (part u h)) (sym (eqb-true w v e)) t.own
  taken_says v i w j h false e t got = let x : None ≡ Some j = sym (t.others w (apart w v e)) ∙ got in absurd (cc x)

  taker_says : (s : Status) (i w : ℕ) (j : J) (h : List (Event J R)) → Taker s i h → job_got (part w h) i ≡ Some j → SaysSame i h (part w h)
  taker_says (Claimed v) i w j h t got = taken_says v i w j h (w == v) refl t got
  taker_says Returned i w j h t got = taken_says t.0 i w j h (w == t.0) refl t.1 got
  taker_says Faulted i w j h t got = taken_says t.0 i w j h (w == t.0) refl t.1 got
  taker_says _ i w j h t got = absurd (untouched_none i w j h t got)

  -- so says a part what the history says
  pub part_says_whole : PartSaysWhole J R
  part_says_whole c n h l w i j got = taker_says (status h i) i w j h (taker c n h l i) got
