-- Each event that is allowed leads from the state after a history to the state after one event more.
use Rattle.std.proofs.Common.{◌≡◌, ◌≢◌, ℕ, zero, suc, ◌<◌, ◌≤◌, ◌+◌, List, [], ◌∷◌, ◌++◌, map, length, slice_get, slice_set, Option, Some}
use Rattle.std.proofs.Common.{None, option_map, refl, sym, ◌∙◌, ap, subst, arith, length-append, ◌↔◌}
use Rattle.std.proofs.lemmas.{List.{length-set, nil_from_length}, Option.{slice_get-map, slice_get_past, slice_get_within}}
use Rattle.lc_board.specs.{State.{Status, Absent, Open, Claimed, Returned, Faulted, status}, LegalHistory.{posts_under, IsIdle, IsOver}}
use Rattle.lc_board.specs.{LegalHistory.{IsAllowed, IsLegal}, Part.worker_of, ClosedBoard.{Shows, IsUnended}, RowsInPlace.job_posted}
use Rattle.lc_board.specs.{RowsInPlace.{job_got, row_given, InPlace}, PlainBoard.{Board, cell_at, IsCellOf, IsAfter, first_board}}
use Rattle.lc_board.specs.PlainCalls.{IsOpen, IsHeld, IsPending, NoneOpen, NoneHeld, cell_of}
use Rattle.lc_board.specs.declared.event.Event.{Event, TheVariants.{Post, Claim, Return, Fault, Over}}
use Rattle.lc_board.specs.{declared.{plain.cell.Cell.{Cell, TheVariants.{Waiting, Held, Done}}, answers.Ended.Ended}, Numbers.HasNumbers}
use Rattle.lc_board.proofs.Places.{get_none, at_same, at_other, each_set, each_push}
use Rattle.lc_board.specs.declared.answers.Ended.TheVariants as ended

-- what a status that has ended, or is absent, is not
pub unended : (s t : Status) → s ≡ t → ¬ IsUnended t → (s ≢ Open) × ((w : ℕ) → s ≢ Claimed w)
unended s t e n = (λ x. n (subst IsUnended (sym x ∙ e) tt), λ w x. n (subst IsUnended (sym x ∙ e) tt))

module _ {J R : Type 0} where
  -- the histories agree at this number
  pub record Agree (root : J) (h g : List (Event J R)) (k : ℕ) : Type 0 where
    pub states : status g k ≡ status h k
    pub posts : posts_under k g ≡ posts_under k h
    pub given : row_given g k ≡ row_given h k
    pub got : job_got g k ≡ job_got h k
    pub jobs : job_posted root g k ≡ job_posted root h k

  -- a cell fits another history that says the same of its number
  pub fits_same : (root : J) (h g : List (Event J R)) (k : ℕ) → Agree root h g k → (o : Option (Cell J R)) → IsCellOf root h k o
      → IsCellOf root g k o
  fits_same root h g k a None f = (a.states ∙ f.0, a.posts ∙ f.1, a.given ∙ f.2)
  fits_same root h g k a (Some (Waiting j)) f = (a.states ∙ f.0, a.posts ∙ f.1, a.given ∙ f.2, a.jobs ∙ f.3)
  fits_same root h g k a (Some (Held w n)) f = (a.states ∙ f.0, ap length a.posts ∙ f.1, a.given ∙ f.2, a.got ∙ (f.3 ∙ sym a.jobs))
  fits_same root h g k a (Some (Done e)) f = (a.states ∙ f.0, a.given ∙ f.1, a.got ∙ (f.2 ∙ sym a.jobs))

  -- what the status of a number says of its cell
  pub claimed_cell : (root : J) (h : List (Event J R)) (k w : ℕ) (o : Option (Cell J R)) → IsCellOf root h k o → status h k ≡ Claimed w
      → (n : ℕ) × (o ≡ Some (Held w n))
  claimed_cell root h k w (Some (Held v n)) f s = let e : Claimed v ≡ Claimed w = sym f.0 ∙ s in let same : v ≡ w = cc e in
      (n, ap (λ u. Some (Held u n)) same)
  claimed_cell root h k w (Some (Done (ended.Returned r))) f s = absurd (cc (sym f.0 ∙ s))
  claimed_cell root h k w _ f s = absurd (cc (sym f.0 ∙ s))

  -- the cell of an open number waits
  pub open_cell : (root : J) (h : List (Event J R)) (k : ℕ) (o : Option (Cell J R)) → IsCellOf root h k o → status h k ≡ Open → IsOpen o
  open_cell root h k (Some (Waiting j)) f s = tt
  open_cell root h k (Some (Done (ended.Returned r))) f s = absurd (cc (sym f.0 ∙ s))
  open_cell root h k _ f s = absurd (cc (sym f.0 ∙ s))

  -- a cell that is held
  pub held_is : (o : Option (Cell J R)) (w n : ℕ) → o ≡ Some (Held w n) → IsHeld o
  held_is o w n e = subst IsHeld (sym e) tt

  -- one event more
  pub after_step : (root : J) (h : List (Event J R)) (e : Event J R) (old new : Board J R) → IsAfter root h old
      → new.capacity ≡ old.capacity → length new.held ≡ length old.held
      → worker_of e < length old.held → IsAllowed old.capacity h e → ((k : ℕ) → IsCellOf root (e ∷ h) k (cell_at new k))
      → IsAfter root (e ∷ h) new
  after_step root h e old new a same count low may fits = record {
    legal =
        subst (λ n. IsLegal new.capacity n (e ∷ h)) (sym count)
        (subst (λ c. IsLegal c (length old.held) (e ∷ h)) (sym same) (a.legal, low, may));
    fits = fits;
  }

  -- one event more that sets one cell, and says nothing of the others
  after_set : (root : J) (h : List (Event J R)) (old new : Board J R) (e : Event J R) (i : ℕ) (c : Cell J R) → IsAfter root h old
      → new.capacity ≡ old.capacity → length new.held ≡ length old.held → worker_of e < length old.held
      → IsAllowed old.capacity h e → i < length old.cells → new.cells ≡ slice_set old.cells i c
      → IsCellOf root (e ∷ h) i (Some c) → ((m : ℕ) → m ≢ i → Agree root h (e ∷ h) m) → IsAfter root (e ∷ h) new
  after_set root h old new e i c a same count low may near cells here others =
      after_step root h e old new a same count low may
      (λ k. subst (λ (cs : List (Cell J R)). IsCellOf root (e ∷ h) k (slice_get cs k)) (sym cells)
      (each_set (IsCellOf root (e ∷ h)) old.cells i c near here
      (λ m off. fits_same root h (e ∷ h) m (others m off) (slice_get old.cells m) (a.fits m)) k))

  -- a worker without a cell has claimed nothing
  pub idle_after : (root : J) (h : List (Event J R)) (b : Board J R) (w : ℕ) → IsAfter root h b
      → ((k n : ℕ) → cell_at b k ≢ Some (Held w n)) → IsIdle w h
  idle_after root h b w a free k s = let c = claimed_cell root h k w (cell_at b k) (a.fits k) s in free k c.0 c.1

  -- a claim
  pub after_claim : (root : J) (h : List (Event J R)) (old new : Board J R) (w i : ℕ) (j : J) → IsAfter root h old
      → new.capacity ≡ old.capacity → length new.held ≡ length old.held
      → w < length old.held → ((k n : ℕ) → cell_at old k ≢ Some (Held w n)) → i < length old.cells → cell_at old i ≡ Some (Waiting j)
      → new.cells ≡ slice_set old.cells i (Held w 0)
      → IsAfter root (Claim w i j ∷ h) new
  after_claim root h old new w i j a same count low free near here cells =
      let was = subst (IsCellOf root h i) here (a.fits i) in
      after_set root h old new (Claim w i j) i (Held w 0) a same count low (was.0, idle_after root h old w a free) near cells
      (at_same i i _ _ refl, ap length was.1, was.2, at_same i i _ _ refl ∙ sym was.3)
      (λ m n. record { states = at_other m i _ _ n; posts = refl; given = refl; got = at_other m i _ _ n; jobs = refl })

  -- where no cell waits and none is held the history is over
  pub over_after : (root : J) (h : List (Event J R)) (b : Board J R) → IsAfter root h b → NoneOpen b → NoneHeld b → IsOver h
  over_after root h b a free held k = (
    λ s. free k (open_cell root h k (cell_at b k) (a.fits k) s),
    λ w s. let c = claimed_cell root h k w (cell_at b k) (a.fits k) s in held k (held_is (cell_at b k) w c.0 c.1),
  )

  -- an Over
  pub after_over : (root : J) (h : List (Event J R)) (b : Board J R) (w : ℕ) → IsAfter root h b → w < length b.held → NoneOpen b
      → NoneHeld b → IsAfter root (Over w ∷ h) b
  after_over root h b w a low free held =
      after_step root h (Over w) b b a refl refl low (over_after root h b a free held)
      (λ k. fits_same root h (Over w ∷ h) k (record { states = refl; posts = refl; given = refl; got = refl; jobs = refl })
      (cell_at b k) (a.fits k))

  -- a post
  pub after_post : (root : J) (h : List (Event J R)) (old new : Board J R) (w p n : ℕ) (j : J) → IsAfter root h old
      → new.capacity ≡ old.capacity → length new.held ≡ length old.held
      → w < length old.held → p < length old.cells → length old.cells < old.capacity → cell_at old p ≡ Some (Held w n)
      → new.cells ≡ slice_set old.cells p (Held w (n + 1)) ++ Waiting j ∷ []
      → IsAfter root (Post w p (length old.cells) j ∷ h) new
  after_post root h old new w p n j a same count low near room here cells =
      let i = length old.cells in
      let g = Post w p i j ∷ h in
      let ds = slice_set old.cells p (Held w (n + 1)) in
      let len : length ds ≡ i = simp length-set in
      let was = subst (IsCellOf root h p) here (a.fits p) in
      let new_at = subst (IsCellOf root h i) (slice_get_past old.cells i (omega arith)) (a.fits i) in
      let apart : i ≢ p = λ e. absurd (omega (arith, near, e)) in
      let back : p ≢ i = λ e. absurd (omega (arith, near, e)) in
      let longer : length (posts_under p h ++ (i, j) ∷ []) ≡ n + 1 = omega (arith, length-append (posts_under p h) ((i, j) ∷ []), was.1) in
      let at_i : IsCellOf root g i (Some (Waiting j)) = (
        at_same i i _ _ refl,
        at_other i p _ _ apart ∙ new_at.1,
        new_at.2,
        at_same i i _ _ refl,
      ) in
      let at_p : IsCellOf root g p (Some (Held w (n + 1))) = (
        at_other p i _ _ back ∙ was.0,
        ap length (at_same p p (posts_under p h ++ (i, j) ∷ []) (posts_under p h) refl) ∙ longer,
        was.2,
        was.3 ∙ sym (at_other p i _ _ back),
      ) in
      let rest : (m : ℕ) → m ≢ i → IsCellOf root g m (slice_get ds m) =
      λ m off. each_set (λ q o. q ≢ i → IsCellOf root g q o) old.cells p (Held w (n + 1)) near (λ _. at_p)
      (λ q other away. fits_same root h g q (record {
        states = at_other q i _ _ away;
        posts = at_other q p _ _ other;
        given = refl;
        got = refl;
        jobs = at_other q i _ _ away;
      }) (slice_get old.cells q) (a.fits q)) m off in
      after_step root h (Post w p i j) old new a same count low (was.0, new_at.0, room, near)
      (λ k. subst (λ (cs : List (Cell J R)). IsCellOf root g k (slice_get cs k)) (sym cells)
      (each_push (IsCellOf root g) ds (Waiting j)
      (subst (λ m. IsCellOf root g m (Some (Waiting j))) (sym len) at_i)
      (λ m off. rest m (λ e. off (e ∙ sym len))) k))

  -- a return
  pub after_return : (root : J) (h : List (Event J R)) (old new : Board J R) (w i n : ℕ) (r : R) → IsAfter root h old
      → new.capacity ≡ old.capacity → length new.held ≡ length old.held
      → w < length old.held → i < length old.cells → cell_at old i ≡ Some (Held w n)
      → new.cells ≡ slice_set old.cells i (Done (ended.Returned r))
      → IsAfter root (Return w i r ∷ h) new
  after_return root h old new w i n r a same count low near here cells =
      let was = subst (IsCellOf root h i) here (a.fits i) in
      after_set root h old new (Return w i r) i (Done (ended.Returned r)) a same count low was.0 near cells
      (at_same i i _ _ refl, at_same i i _ _ refl, was.3)
      (λ m n. record { states = at_other m i _ _ n; posts = refl; given = at_other m i _ _ n; got = refl; jobs = refl })

  -- a fault
  pub after_fault : (root : J) (h : List (Event J R)) (old new : Board J R) (w i : ℕ) (r : R) → IsAfter root h old
      → new.capacity ≡ old.capacity → length new.held ≡ length old.held
      → w < length old.held → i < length old.cells → cell_at old i ≡ Some (Held w 0)
      → new.cells ≡ slice_set old.cells i (Done (ended.Faulted r))
      → IsAfter root (Fault w i r ∷ h) new
  after_fault root h old new w i r a same count low near here cells =
      let was = subst (IsCellOf root h i) here (a.fits i) in
      after_set root h old new (Fault w i r) i (Done (ended.Faulted r)) a same count low
      (was.0, nil_from_length (posts_under i h) was.1) near cells (at_same i i _ _ refl, at_same i i _ _ refl, was.3)
      (λ m n. record { states = at_other m i _ _ n; posts = refl; given = at_other m i _ _ n; got = refl; jobs = refl })

  first_fits : (root : J) (k : ℕ) (o : Option (Cell J R)) → slice_get (Waiting root ∷ []) k ≡ o → IsCellOf root [] k o
  first_fits root zero o e = subst (IsCellOf root [] 0) e (refl, refl, refl, refl)
  first_fits root (suc k) o e = subst (IsCellOf root [] (suc k)) e (at_other (suc k) 0 _ _ (λ x. absurd (omega (arith, x))), refl, refl)

  -- the first board stands for the empty history
  pub after_first : (capacity count : ℕ) (root : J) → IsAfter {R = R} root [] (first_board capacity count root)
  after_first capacity count root = record { legal = tt; fits = λ k. first_fits root k _ refl }

  -- a number whose row is there has ended, one whose row is not there is absent
  pub record Ends (root : J) (h : List (Event J R)) (k : ℕ) (o : Option (Ended R)) : Type 0 where
    pub over : (status h k ≢ Open) × ((w : ℕ) → status h k ≢ Claimed w)
    pub given : o ≡ row_given h k
    pub handed : (e : Ended R) → o ≡ Some e → job_got h k ≡ job_posted root h k
    pub shown : Shows (status h k) o

  ends : (root : J) (h : List (Event J R)) (k : ℕ) (o : Option (Ended R)) → IsCellOf {R = R} root h k (option_map cell_of o)
      → Ends root h k o
  ends root h k None f = record { over = unended _ Absent f.0 (λ x. x); given = sym f.2; handed = λ e x. absurd (cc x); shown = f.0 }
  ends root h k (Some (ended.Returned r)) f =
      record { over = unended _ Returned f.0 (λ x. x); given = sym f.1; handed = λ e x. f.2; shown = f.0 }
  ends root h k (Some (ended.Faulted r)) f =
      record { over = unended _ Faulted f.0 (λ x. x); given = sym f.1; handed = λ e x. f.2; shown = f.0 }

  ends_at : (root : J) (h : List (Event J R)) (b : Board J R) (rows : List (Ended R)) → IsAfter root h b → map cell_of rows ≡ b.cells
      → (k : ℕ) → Ends root h k (slice_get rows k)
  ends_at root h b rows a is k = ends root h k (slice_get rows k)
      (subst (IsCellOf root h k) (ap (λ (cs : List (Cell J R)). slice_get cs k) (sym is) ∙ slice_get-map cell_of rows k) (a.fits k))

  -- the rows of a closed board are those of the numbers' ends
  pub rows_shown : (root : J) (h : List (Event J R)) (b : Board J R) (rows : List (Ended R)) → IsAfter root h b
      → map cell_of rows ≡ b.cells → (k : ℕ) → Shows (status h k) (slice_get rows k)
  rows_shown root h b rows a is k = (ends_at root h b rows a is k).shown

  left_by : (root : J) (h : List (Event J R)) (k : ℕ) (o : Option (Cell J R)) → IsCellOf root h k o → IsPending o → IsUnended (status h k)
  left_by root h k None f x = absurd x
  left_by root h k (Some (Done e)) f x = absurd x
  left_by root h k _ f x = subst IsUnended (sym f.0) tt

  -- a number whose cell is left has not ended
  pub left_status : (root : J) (h : List (Event J R)) (b : Board J R) (k : ℕ) → IsAfter root h b → IsPending (cell_at b k)
      → IsUnended (status h k)
  left_status root h b k a x = left_by root h k (cell_at b k) (a.fits k) x

  gone_by : (root : J) (h : List (Event J R)) (k : ℕ) (o : Option (Cell J R)) → IsCellOf root h k o → ¬ IsPending o
      → ¬ IsUnended (status h k)
  gone_by root h k (Some (Waiting j)) f n x = n tt
  gone_by root h k (Some (Held w m)) f n x = n tt
  gone_by root h k (Some (Done (ended.Returned r))) f n x = subst IsUnended f.0 x
  gone_by root h k _ f n x = subst IsUnended f.0 x

  -- a number whose cell is not left has
  pub gone_status : (root : J) (h : List (Event J R)) (b : Board J R) (k : ℕ) → IsAfter root h b → ¬ IsPending (cell_at b k)
      → ¬ IsUnended (status h k)
  gone_status root h b k a n = gone_by root h k (cell_at b k) (a.fits k) n

  -- the rows of a board on which each number has ended
  pub rows_placed : (root : J) (h : List (Event J R)) (b : Board J R) (rows : List (Ended R)) → IsAfter root h b
      → map cell_of rows ≡ b.cells → IsOver h × InPlace root h rows
  rows_placed root h b rows a is =
      let at : (k : ℕ) → Ends root h k (slice_get rows k) = ends_at root h b rows a is in
      (λ k. (at k).over, record { given = λ k. (at k).given; handed = λ k. (at k).handed })

  present : (h : List (Event J R)) (k : ℕ) (cs : List (Cell J R)) (c : Cell J R) → slice_get cs k ≡ Some c → status h k ≢ Absent
      → (status h k ≡ Absent) ↔ (length cs ≤ k)
  present h k cs c e there = (λ s. absurd (there s), λ past. absurd (omega (arith, slice_get_within cs k c e, past)))

  numbers_at : (root : J) (h : List (Event J R)) (k : ℕ) (cs : List (Cell J R)) (o : Option (Cell J R)) → IsCellOf root h k o
      → slice_get cs k ≡ o → (status h k ≡ Absent) ↔ (length cs ≤ k)
  numbers_at root h k cs None f e = (λ _. get_none cs k e, λ _. f.0)
  numbers_at root h k cs (Some (Done (ended.Returned r))) f e = present h k cs (Done (ended.Returned r)) e (λ s. absurd (cc (sym f.0 ∙ s)))
  numbers_at root h k cs (Some c) f e = present h k cs c e (λ s. absurd (cc (sym f.0 ∙ s)))

  -- the numbers of a board are those of its history
  pub has_numbers : (root : J) (h : List (Event J R)) (b : Board J R) → IsAfter root h b → HasNumbers (length b.cells) h
  has_numbers root h b a k = numbers_at root h k b.cells (slice_get b.cells k) (a.fits k) refl
