-- From what is said of each end in its worker's part to what is said of the ends in the whole history.
use Rattle.std.proofs.Common.{◌≡◌, ◌≢◌, ℕ, ◌<◌, ◌==◌, Bool, true, false, cond, List, [], ◌∷◌, length, slice_get, map, refl, sym}
use Rattle.std.proofs.{Common.{◌∙◌, ap, subst, Option, Some, arith}, lemmas.Option.slice_get_within}
use Rattle.std.specs.List.{AllByRecursion}
use Rattle.lc_board.specs.{State.{Claimed, status}, Part.{worker_of, part}, LegalHistory.{posts_under, IsLegal}}
use Rattle.lc_board.specs.{Holding.{job_held, posts_held}, RowsInPlace.{job_got, row_given}, Growth.put}
use Rattle.lc_board.specs.{Ends.{Saying, ends, ender, EachEnd, EndsHold, RowsHold}, Pass.Pass, ClosedBoard.{Promises, Settled}}
use Rattle.lc_board.specs.declared.{event.Event.{Event, TheVariants.{Return, Fault}}, answers.Ended.Ended}
use Rattle.lc_board.specs.declared.answers.Ended.TheVariants as ended
use Rattle.lc_board.proofs.{Places.{at_same, at_other, each, get_there}, Growths.{at_put, put_here, put_else, part_own, part_else}}
use Rattle.lc_board.proofs.{HeldClaims.part_tells_claim, Weights.each-map}
use Rattle.lc_board.proofs.EndedNumbers.{none_some, IsGiven, stays_after, ender_stays, ends_given, claimed_has_no_row, part_ends, no_end}

same_some : {A : Type 0} (x y : A) → Some x ≡ Some y → x ≡ y
same_some x y e = cc

within_or : {A : Type 0} (b : Bool) (x y : Option A) (z : A) (v w n : ℕ) → v < n → (y ≡ Some z → w < n) → cond b x y ≡ Some z
    → cond b v w < n
within_or true x y z v w n low rec e = low
within_or false x y z v w n low rec e = rec e

no_witness : {J R A : Type 0} (Q : Option J → List (ℕ × J) → Ended R → A → Type 0) (given : List A) → EachEnd Q [] given → given ≡ []
no_witness Q [] x = refl
no_witness Q (a ∷ given) x = absurd x

-- a witness by another function that says the same at each end
map_on : {R A : Type 0} (f g : ℕ → A) (xs : List (ℕ × Ended R)) → AllByRecursion (λ x. f x.0 ≡ g x.0) xs
    → map (λ x. f x.0) xs ≡ map (λ x. g x.0) xs
map_on f g [] a = refl
map_on f g (x ∷ xs) a = ap (λ y. y ∷ map (λ z. f z.0) xs) a.0 ∙ ap (λ ys. g x.0 ∷ ys) (map_on f g xs a.1)

module _ {J R A : Type 0} (P : Saying J R A) (c n : ℕ) where
  abbrev Lawful : List (Event J R) → (ℕ → List A) → Type 0
  Lawful h given = (w : ℕ) → w < n → EachEnd (P w) (part w h) (given w)

  -- one event more that ends nothing
  goes_on : (h : List (Event J R)) (e : Event J R) (given : ℕ → List A) → IsLegal c n (e ∷ h)
      → ((i : ℕ) → row_given (e ∷ h) i ≡ row_given h i)
      → ((w : ℕ) → ends (part w (e ∷ h)) ≡ ends (part w h)) → EndsHold P n h given → EndsHold P n (e ∷ h) given
  goes_on h e given l same none old = record {
    by = old.by;
    holds = λ i r g.
        let was : row_given h i ≡ Some r = sym (same i) ∙ g in
        let s = stays_after c n h e l i r was in
        subst (λ w. P w (job_got (e ∷ h) i) (posts_under i (e ∷ h)) r (old.by i)) (sym (ender_stays c n h e l i r was))
        (subst (λ o. P (ender h i) o (posts_under i (e ∷ h)) r (old.by i)) (sym s.got)
        (subst (λ ps. P (ender h i) (job_got h i) ps r (old.by i)) (sym s.posts) (old.holds i r was)));
    given_by = λ w low. old.given_by w low ∙ ap (map (λ x. old.by x.0)) (sym (none w));
  }

  -- an event that ends the number k, which v has claimed
  record IsEnd (h : List (Event J R)) (e : Event J R) (k v : ℕ) (d : Ended R) : Type 0 where
    pub own : worker_of e ≡ v
    pub held : status h k ≡ Claimed v
    pub rows : (i : ℕ) → row_given (e ∷ h) i ≡ cond (i == k) (Some d) (row_given h i)
    pub enders : (i : ℕ) → ender (e ∷ h) i ≡ cond (i == k) v (ender h i)
    pub jobs : (i : ℕ) → job_got (e ∷ h) i ≡ job_got h i
    pub posts : (i : ℕ) → posts_under i (e ∷ h) ≡ posts_under i h
    pub one : (m : List (Event J R)) → ends (e ∷ m) ≡ (k, d) ∷ ends m

  module _ (h : List (Event J R)) (e : Event J R) (k v : ℕ) (d : Ended R) (l : IsLegal c n (e ∷ h)) (is : IsEnd h e k v d)
      (given : ℕ → List A) (a : A) (rest : List A) (first : given v ≡ a ∷ rest)
      (here : P v (job_held (part v h)) (posts_held (part v h)) d a) (old : EndsHold P n h (put given v rest)) where
    abbrev by : ℕ → A
    by = put old.by k a

    abbrev SaidOf : ℕ → Type 0
    SaidOf i = (r : Ended R) → row_given (e ∷ h) i ≡ Some r → P (ender (e ∷ h) i) (job_got (e ∷ h) i) (posts_under i (e ∷ h)) r (by i)

    said_here : SaidOf k
    said_here r g =
        let told = part_tells_claim c n h l.0 v in
        let row : d ≡ r = same_some d r (sym (at_same k k (Some d) (row_given h k) refl) ∙ sym (is.rows k) ∙ g) in
        subst (λ w. P w (job_got (e ∷ h) k) (posts_under k (e ∷ h)) r (by k)) (sym (is.enders k ∙ at_same k k v (ender h k) refl))
        (subst (λ o. P v o (posts_under k (e ∷ h)) r (by k)) (told.job_is k is.held ∙ sym (is.jobs k))
        (subst (λ ps. P v (job_held (part v h)) ps r (by k)) (told.posts_are k is.held ∙ sym (is.posts k))
        (subst (λ x. P v (job_held (part v h)) (posts_held (part v h)) x (by k)) row
        (subst (λ x. P v (job_held (part v h)) (posts_held (part v h)) d x) (sym (put_here old.by k a)) here))))

    said_else : (i : ℕ) → i ≢ k → SaidOf i
    said_else i away r g =
        let was : row_given h i ≡ Some r = sym (at_other i k (Some d) (row_given h i) away) ∙ sym (is.rows i) ∙ g in
        subst (λ w. P w (job_got (e ∷ h) i) (posts_under i (e ∷ h)) r (by i)) (sym (ender_stays c n h e l i r was))
        (subst (λ o. P (ender h i) o (posts_under i (e ∷ h)) r (by i)) (sym (is.jobs i))
        (subst (λ ps. P (ender h i) (job_got h i) ps r (by i)) (sym (is.posts i))
        (subst (λ x. P (ender h i) (job_got h i) (posts_under i h) r x) (sym (put_else old.by k a i away)) (old.holds i r was))))

    -- the numbers that had ended are others
    by_before : (w : ℕ) → map (λ x. old.by x.0) (ends (part w h)) ≡ map (λ x. by x.0) (ends (part w h))
    by_before w =
        map_on old.by by (ends (part w h))
        (part_ends (λ x. old.by x.0 ≡ by x.0) w h
        (each-map (IsGiven h) (λ x. old.by x.0 ≡ by x.0)
        (λ x g. sym (put_else old.by k a x.0 (λ z. claimed_has_no_row c n h l.0 v x.0 x.1 (ap (status h) z ∙ is.held) g)))
        (ends h) (ends_given c n h l.0)))

    abbrev GivenBy : ℕ → Type 0
    GivenBy w = w < n → given w ≡ map (λ x. by x.0) (ends (part w (e ∷ h)))

    given_here : GivenBy v
    given_here low =
        first
        ∙ ap (λ y. y ∷ rest) (sym (put_here old.by k a))
        ∙ ap (λ ys. by k ∷ ys) (sym (put_here given v rest) ∙ old.given_by v low ∙ by_before v)
        ∙ ap (map (λ x. by x.0)) (sym (is.one (part v h)))
        ∙ ap (λ m. map (λ x. by x.0) (ends m)) (sym (part_own v h e is.own))

    given_else : (w : ℕ) → w ≢ v → GivenBy w
    given_else w away low =
        sym (put_else given v rest w away) ∙ old.given_by w low ∙ by_before w
        ∙ ap (λ m. map (λ x. by x.0) (ends m)) (sym (part_else w h e (λ z. away (sym z ∙ is.own))))

    with_end : EndsHold P n (e ∷ h) given
    with_end = record { by = by; holds = each SaidOf k said_here said_else; given_by = each GivenBy v given_here given_else }

  -- the witnesses but the newest one of v
  fewer : (h : List (Event J R)) (e : Event J R) (v : ℕ) (given : ℕ → List A) (rest : List A) → worker_of e ≡ v
      → EachEnd (P v) (part v h) rest → Lawful (e ∷ h) given → Lawful h (put given v rest)
  fewer h e v given rest own mine all w low =
      at_put given v rest (λ u g. EachEnd (P u) (part u h) g) w mine
      (λ away. subst (λ m. EachEnd (P w) m (given w)) (part_else w h e (λ z. away (sym z ∙ own))) (all w low))

  -- an end takes the newest of its worker's witnesses
  ended_by : (h : List (Event J R)) (e : Event J R) (k v : ℕ) (d : Ended R) (given : ℕ → List A) (g : List A) → given v ≡ g
      → IsLegal c n (e ∷ h) → IsEnd h e k v d → given v ≢ [] → ((a : A) (rest : List A) → given v ≡ a ∷ rest
      → P v (job_held (part v h)) (posts_held (part v h)) d a × EachEnd (P v) (part v h) rest)
      → ((f : ℕ → List A) → Lawful h f → EndsHold P n h f) → Lawful (e ∷ h) given → EndsHold P n (e ∷ h) given
  ended_by h e k v d given [] is l end some first rec all = absurd (some is)
  ended_by h e k v d given (a ∷ rest) is l end some first rec all = let x = first a rest is in
      with_end h e k v d l end given a rest is x.0 (rec (put given v rest) (fewer h e v given rest end.own x.1 all))

  own_part : (h : List (Event J R)) (e : Event J R) (given : ℕ → List A) → Lawful (e ∷ h) given → worker_of e < n
      → EachEnd (P (worker_of e)) (e ∷ part (worker_of e) h) (given (worker_of e))
  own_part h e given all low =
      subst (λ m. EachEnd (P (worker_of e)) m (given (worker_of e))) (part_own (worker_of e) h e refl) (all (worker_of e) low)

-- an event that ends nothing leaves a part's witnesses
module _ {J R A : Type 0} where
  past : (Q : Option J → List (ℕ × J) → Ended R → A → Type 0) (e : Event J R) (m : List (Event J R)) (g : List A) (b : Bool)
      → (EachEnd Q (e ∷ m) g → EachEnd Q m g) → EachEnd Q (cond b (e ∷ m) m) g → EachEnd Q m g
  past Q e m g true f x = f x
  past Q e m g false f x = x

  -- what is said of each end in its worker's part holds of all ends of the history
  pub ends_hold : (P : Saying J R A) (blank : A) (c n : ℕ) (h : List (Event J R)) → IsLegal c n h → (given : ℕ → List A)
      → ((w : ℕ) → w < n → EachEnd (P w) (part w h) (given w)) → EndsHold P n h given
  ends_hold P blank c n [] l given all = record {
    by = λ i. blank;
    holds = λ i e g. absurd (none_some e g);
    given_by = λ w low. no_witness (P w) (given w) (all w low);
  }
  ends_hold P blank c n (Return v k r ∷ h) l given all =
      let told = λ (g : List A) (is : given v ≡ g). subst (EachEnd (P v) (Return v k r ∷ part v h)) is
      (own_part P c n h (Return v k r) given all l.1) in
      ended_by P c n h (Return v k r) k v (ended.Returned r) given (given v) refl l
      (record { own = refl; held = l.2; rows = λ i. refl; enders = λ i. refl; jobs = λ i. refl; posts = λ i. refl; one = λ m. refl })
      (told []) (λ a rest. told (a ∷ rest)) (λ f lawful. ends_hold P blank c n h l.0 f lawful) all
  ends_hold P blank c n (Fault v k r ∷ h) l given all =
      let told = λ (g : List A) (is : given v ≡ g). subst (EachEnd (P v) (Fault v k r ∷ part v h)) is
      (own_part P c n h (Fault v k r) given all l.1) in
      ended_by P c n h (Fault v k r) k v (ended.Faulted r) given (given v) refl l
      (record { own = refl; held = l.2.0; rows = λ i. refl; enders = λ i. refl; jobs = λ i. refl; posts = λ i. refl; one = λ m. refl })
      (told []) (λ a rest. told (a ∷ rest)) (λ f lawful. ends_hold P blank c n h l.0 f lawful) all
  ends_hold P blank c n (e ∷ h) l given all =
      goes_on P c n h e given l (λ i. refl) (λ w. no_end e (part w h) refl (worker_of e == w))
      (ends_hold P blank c n h l.0 given
      (λ w low. past (P w) e (part w h) (given w) (worker_of e == w) (λ x. x) (all w low)))

-- ---- the rows of a closed board

module _ {J R : Type 0} where
  -- who ended a number is one of the workers
  pub ender_within : (c n : ℕ) (h : List (Event J R)) → IsLegal c n h → (i : ℕ) (e : Ended R) → row_given h i ≡ Some e → ender h i < n
  ender_within c n [] l i e g = absurd (none_some e g)
  ender_within c n (Return v k r ∷ h) l i e g =
      within_or (i == k) (Some (ended.Returned r)) (row_given h i) e v (ender h i) n l.1 (ender_within c n h l.0 i e) g
  ender_within c n (Fault v k r ∷ h) l i e g =
      within_or (i == k) (Some (ended.Faulted r)) (row_given h i) e v (ender h i) n l.1 (ender_within c n h l.0 i e) g
  ender_within c n (_ ∷ h) l i e g = ender_within c n h l.0 i e g

  -- and so of the rows of the closed board
  pub rows_hold : {A : Type 0} (P : Saying J R A) (blank : A) (c n : ℕ) (root : J) (promises : Promises) (passes : List (Pass J R))
      (rows : List (Ended R)) (settled : Settled c n root promises passes rows)
      → promises.keeps ≡ true → length passes ≡ n → (given : ℕ → List A)
      → ((w : ℕ) (p : Pass J R) → slice_get passes w ≡ Some p → EachEnd (P w) p.mine (given w))
      → RowsHold P n settled.history passes rows given
  rows_hold P blank c n root promises passes rows settled keeps count given all =
      let h = settled.history in
      let placed = settled.in_place keeps in
      let e = ends_hold P blank c n h settled.legal given
      (λ w low. let p = get_there passes w (omega arith) in subst (λ m. EachEnd (P w) m (given w)) (sym (settled.parts w p.0 p.1))
      (all w p.0 p.1)) in
      record {
        by = e.by;
        ender_is = λ i r at. ender_within c n h settled.legal i r (sym (placed.given i) ∙ at);
        holds = λ i r at. e.holds i r (sym (placed.given i) ∙ at);
        given_by = λ w p at.
            let low = slice_get_within passes w p at in
            e.given_by w (omega arith) ∙ ap (λ m. map (λ x. e.by x.0) (ends m)) (settled.parts w p at);
      }
