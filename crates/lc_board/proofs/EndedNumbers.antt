-- What is said of a number that has ended stays, and each end of a legal history is that of its number.
use Rattle.std.proofs.Common.{◌≡◌, ◌≢◌, ℕ, ◌==◌, Bool, true, false, cond, List, [], ◌∷◌, ◌++◌, refl, sym, ◌∙◌, ap, subst, Option, Some}
use Rattle.std.proofs.Common.{None}
use Rattle.std.specs.List.{AllByRecursion}
use Rattle.lc_board.specs.{State.{Status, Absent, Open, Claimed, Returned, Faulted, status}, Part.part, LegalHistory.IsLegal}
use Rattle.lc_board.specs.{RowsInPlace.row_given, Ends.{ends, ender}, Laws.{GivenAs, SaysSame, EndedStays}, declared.event.Event.Event}
use Rattle.lc_board.specs.declared.{event.Event.TheVariants.{Post, Claim, Return, Fault, Over}, answers.Ended.Ended}
use Rattle.lc_board.specs.declared.answers.Ended.TheVariants as ended
use Rattle.lc_board.proofs.{Places.{at_same, at_other}, NumbersOnce.ended_has_row, Weights.each-map}

-- nothing is not something
pub none_some : {A : Type 0} (x : A) → None ≡ Some x → ⊥
none_some x e = absurd (cc e)

-- neither absent nor open nor claimed
pub record IsPast (s : Status) : Type 0 where
  -- it was posted
  pub there : s ≢ Absent
  -- it is not open
  pub shut : s ≢ Open
  -- nobody has claimed it
  pub free : (w : ℕ) → s ≢ Claimed w

-- a number that has a row has ended
past : {R : Type 0} (s : Status) (o : Option (Ended R)) (e : Ended R) → GivenAs s o → o ≡ Some e → IsPast s
past Returned o e g is = record { there = λ x. absurd (cc x); shut = λ x. absurd (cc x); free = λ w x. absurd (cc x) }
past Faulted o e g is = record { there = λ x. absurd (cc x); shut = λ x. absurd (cc x); free = λ w x. absurd (cc x) }
past _ o e g is = absurd (none_some e (sym g ∙ is))

module _ {J R : Type 0} where
  -- a number with a row has ended
  pub row_means_ended : (c n : ℕ) (h : List (Event J R)) → IsLegal c n h → (i : ℕ) (e : Ended R) → row_given h i ≡ Some e
      → IsPast (status h i)
  row_means_ended c n h l i e is = past (status h i) (row_given h i) e (ended_has_row c n h l i) is

  -- one event more says nothing else of it
  pub stays_after : (c n : ℕ) (h : List (Event J R)) (t : Event J R) → IsLegal c n (t ∷ h) → (i : ℕ) (e : Ended R)
      → row_given h i ≡ Some e → SaysSame i h (t ∷ h)
  stays_after c n h (Post w p k j) l i e is =
      let g = row_means_ended c n h l.0 i e is in
      record { posts = at_other i p _ _ (λ x. g.free w (ap (status h) x ∙ l.2.0)); got = refl; given = refl }
  stays_after c n h (Claim w k j) l i e is =
      let g = row_means_ended c n h l.0 i e is in
      record { posts = refl; got = at_other i k _ _ (λ x. g.shut (ap (status h) x ∙ l.2.0)); given = refl }
  stays_after c n h (Return w k r) l i e is =
      let g = row_means_ended c n h l.0 i e is in
      record { posts = refl; got = refl; given = at_other i k _ _ (λ x. g.free w (ap (status h) x ∙ l.2)) }
  stays_after c n h (Fault w k r) l i e is =
      let g = row_means_ended c n h l.0 i e is in
      record { posts = refl; got = refl; given = at_other i k _ _ (λ x. g.free w (ap (status h) x ∙ l.2.0)) }
  stays_after c n h (Over w) l i e is = record { posts = refl; got = refl; given = refl }

  stays_over : (c n : ℕ) (rest g : List (Event J R)) → IsLegal c n (rest ++ g) → (i : ℕ) (e : Ended R) → row_given g i ≡ Some e
      → SaysSame i g (rest ++ g)
  stays_over c n [] g l i e is = record { posts = refl; got = refl; given = refl }
  stays_over c n (t ∷ rest) g l i e is =
      let before = stays_over c n rest g l.0 i e is in
      let last = stays_after c n (rest ++ g) t l i e (before.given ∙ is) in
      record { posts = last.posts ∙ before.posts; got = last.got ∙ before.got; given = last.given ∙ before.given }

  -- so it stays for all that follows
  pub ended_stays : EndedStays J R
  ended_stays c n h g l goes i e is =
      subst (λ z. SaysSame i g z) (sym goes.1) (stays_over c n goes.0 g (subst (λ z. IsLegal c n z) goes.1 l) i e is)

  -- and who ended it
  pub ender_stays : (c n : ℕ) (h : List (Event J R)) (t : Event J R) → IsLegal c n (t ∷ h) → (i : ℕ) (e : Ended R)
      → row_given h i ≡ Some e → ender (t ∷ h) i ≡ ender h i
  ender_stays c n h (Return w k r) l i e is = let g = row_means_ended c n h l.0 i e is in at_other i k _ _
      (λ x. g.free w (ap (status h) x ∙ l.2))
  ender_stays c n h (Fault w k r) l i e is = let g = row_means_ended c n h l.0 i e is in at_other i k _ _
      (λ x. g.free w (ap (status h) x ∙ l.2.0))
  ender_stays c n h _ l i e is = refl

  -- the end is that of its number
  abbrev pub IsGiven : List (Event J R) → (ℕ × Ended R) → Type 0
  IsGiven h x = row_given h x.0 ≡ Some x.1

  still : (c n : ℕ) (h : List (Event J R)) (t : Event J R) → IsLegal c n (t ∷ h) → (x : ℕ × Ended R) → IsGiven h x → IsGiven (t ∷ h) x
  still c n h t l x g = let s = stays_after c n h t l x.0 x.1 g in s.given ∙ g

  -- each end is that of its number
  pub ends_given : (c n : ℕ) (h : List (Event J R)) → IsLegal c n h → AllByRecursion (IsGiven h) (ends h)
  ends_given c n [] l = tt
  ends_given c n (Return w i r ∷ h) l =
      (at_same i i _ _ refl, each-map (IsGiven h) _ (still c n h (Return w i r) l) _ (ends_given c n h l.0))
  ends_given c n (Fault w i r ∷ h) l = (at_same i i _ _ refl, each-map (IsGiven h) _ (still c n h (Fault w i r) l) _ (ends_given c n h l.0))
  ends_given c n (e ∷ h) l = each-map (IsGiven h) (IsGiven (e ∷ h)) (still c n h e l) (ends h) (ends_given c n h l.0)

  -- a number that is claimed has no row
  pub claimed_has_no_row : (c n : ℕ) (h : List (Event J R)) → IsLegal c n h → (w i : ℕ) (e : Ended R) → status h i ≡ Claimed w
      → row_given h i ≡ Some e → ⊥
  claimed_has_no_row c n h l w i e s is = let g = row_means_ended c n h l i e is in g.free w s

  -- ---- the ends of a worker's part are ends of the whole

  in_none : (Q : (ℕ × Ended R) → Type 0) (e : Event J R) (q : List (Event J R)) → ends (e ∷ q) ≡ ends q → (b : Bool)
      → AllByRecursion Q (ends q) → AllByRecursion Q (ends (cond b (e ∷ q) q))
  in_none Q e q same true a = subst (AllByRecursion Q) (sym same) a
  in_none Q e q same false a = a

  in_one : (Q : (ℕ × Ended R) → Type 0) (e : Event J R) (x : ℕ × Ended R) (q : List (Event J R)) → ends (e ∷ q) ≡ x ∷ ends q
      → (b : Bool) → Q x → AllByRecursion Q (ends q) → AllByRecursion Q (ends (cond b (e ∷ q) q))
  in_one Q e x q one true y a = subst (AllByRecursion Q) (sym one) (y, a)
  in_one Q e x q one false y a = a

  -- what holds of all ends holds of those of a part
  pub part_ends : (Q : (ℕ × Ended R) → Type 0) (w : ℕ) (h : List (Event J R)) → AllByRecursion Q (ends h)
      → AllByRecursion Q (ends (part w h))
  part_ends Q w [] a = tt
  part_ends Q w (Post v p i j ∷ h) a = in_none Q (Post v p i j) (part w h) refl (v == w) (part_ends Q w h a)
  part_ends Q w (Claim v i j ∷ h) a = in_none Q (Claim v i j) (part w h) refl (v == w) (part_ends Q w h a)
  part_ends Q w (Return v i r ∷ h) a = in_one Q (Return v i r) (i, ended.Returned r) (part w h) refl (v == w) a.0 (part_ends Q w h a.1)
  part_ends Q w (Fault v i r ∷ h) a = in_one Q (Fault v i r) (i, ended.Faulted r) (part w h) refl (v == w) a.0 (part_ends Q w h a.1)
  part_ends Q w (Over v ∷ h) a = in_none Q (Over v) (part w h) refl (v == w) (part_ends Q w h a)

  -- an event that ends nothing adds no end to a part
  pub no_end : (e : Event J R) (m : List (Event J R)) → ends (e ∷ m) ≡ ends m → (b : Bool) → ends (cond b (e ∷ m) m) ≡ ends m
  no_end e m same true = same
  no_end e m same false = refl
