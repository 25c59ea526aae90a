-- Values put to a history without values.
use Rattle.std.proofs.Common.{◌≡◌, ◌≢◌, ℕ, zero, suc, ◌≤◌, ◌==◌, cond, Bool, true, false, List, [], ◌∷◌, map, length, slice_get, Some, refl}
use Rattle.std.proofs.{Common.{sym, ◌∙◌, ap, subst, arith, eq-eqb, ◌↔◌}, lemmas.Bool.eqb-true}
use Rattle.lc_board.specs.{State.{Absent, status}, Numbers.HasNumbers, RecordedCalls.locked_promises, Part.{part, worker_of}}
use Rattle.lc_board.specs.{Bare.{bare, BareEvent}, LegalHistory.{IsLegal, IsOver}, Pass.Pass, ClosedBoard.{Settled, Shows}}
use Rattle.lc_board.specs.declared.{answers.Ended.Ended, event.Event.Event}
use Rattle.lc_board.proofs.BareHistories.{worker_bare, status_bare, legal_bare, legal_back}

skip : (w : ℕ) (e : BareEvent) (es : List BareEvent) (b : Bool) → (worker_of e == w) ≡ b → worker_of e ≢ w → part w es ≡ []
    → cond b (e ∷ part w es) (part w es) ≡ []
skip w e es true t d n = absurd (d (eqb-true (worker_of e) w t))
skip w e es false t d n = n

no_part : (c n w : ℕ) (es : List BareEvent) → n ≤ w → IsLegal c n es → part w es ≡ []
no_part c n w [] h l = refl
no_part c n w (e ∷ es) h l = skip w e es (worker_of e == w) refl (λ x. absurd (omega (arith, l.1, h, x))) (no_part c n w es h l.0)

module _ {J R : Type 0} where
  -- a history whose events are these and whose parts are those
  pub record Woven (es : List BareEvent) (mines : ℕ → List (Event J R)) : Type 0 where
    pub history : List (Event J R)
    pub bare_is : map bare history ≡ es
    pub parts_are : (w : ℕ) → part w history ≡ mines w

  record First (e : BareEvent) (es : List BareEvent) (mine : List (Event J R)) : Type 0 where
    pub event : Event J R
    pub rest : List (Event J R)
    pub mine_is : mine ≡ event ∷ rest
    pub event_is : bare event ≡ e
    pub rest_is : es ≡ map bare rest

  no_events : (mine : List (Event J R)) → [] ≡ map bare mine → [] ≡ mine
  no_events [] h = refl
  no_events (n ∷ ns) h = absurd (cc h)

  first_of_mine : (e : BareEvent) (es : List BareEvent) (mine : List (Event J R)) → e ∷ es ≡ map bare mine → First e es mine
  first_of_mine e es [] h = absurd (cc h)
  first_of_mine e es (n ∷ ns) h = record {
    event = n;
    rest = ns;
    mine_is = refl;
    event_is = let x : bare n ≡ e = cc h in x;
    rest_is = let x : es ≡ map bare ns = cc h in x;
  }

  abbrev others : (v : ℕ) (rest : List (Event J R)) (mines : ℕ → List (Event J R)) → ℕ → List (Event J R)
  others v rest mines w = cond (v == w) rest (mines w)

  -- the parts that are left after the first event
  left : (v : ℕ) (e : BareEvent) (es : List BareEvent) (mines : ℕ → List (Event J R)) (f : List (Event J R)) → part v es ≡ map bare f
      → (w : ℕ) (b : Bool) → (v == w) ≡ b → cond b (e ∷ part w es) (part w es) ≡ map bare (mines w)
      → part w es ≡ map bare (cond b f (mines w))
  left v e es mines f is w true t h = subst (λ u. part u es ≡ map bare f) (eqb-true v w t) is
  left v e es mines f is w false t h = h

  -- the parts with the first event
  back : (v : ℕ) (n : Event J R) (h f : List (Event J R)) (mines : ℕ → List (Event J R)) → mines v ≡ n ∷ f
      → (w : ℕ) (b : Bool) → (v == w) ≡ b → part w h ≡ cond b f (mines w) → cond b (n ∷ part w h) (part w h) ≡ mines w
  back v n h f mines is w true t p = ap (λ x. n ∷ x) p ∙ (sym is ∙ ap mines (eqb-true v w t))
  back v n h f mines is w false t p = p

  -- the events of each worker's list, in the order of the stored history
  pub weave : (es : List BareEvent) (mines : ℕ → List (Event J R)) → ((w : ℕ) → part w es ≡ map bare (mines w)) → Woven es mines
  weave [] mines m = record { history = []; bare_is = refl; parts_are = λ w. no_events (mines w) (m w) }
  weave (e ∷ es) mines m =
      let v = worker_of e in
      let own : e ∷ part v es ≡ map bare (mines v) = rw (eq-eqb v v refl) at (m v) in
      let f = first_of_mine e (part v es) (mines v) own in
      let rest = weave es (others v f.rest mines) (λ w. left v e es mines f.rest f.rest_is w (v == w) refl (m w)) in
      let its : worker_of f.event ≡ v = sym (worker_bare f.event) ∙ ap (λ (x : BareEvent). worker_of x) f.event_is in
      record {
        history = f.event ∷ rest.history;
        bare_is = ap (λ x. x ∷ map bare rest.history) f.event_is ∙ ap (λ x. e ∷ x) rest.bare_is;
        parts_are = λ w.
            let at : (worker_of f.event == w) ≡ (v == w) = ap (λ x. x == w) its in
            rw at (back v f.event rest.history f.rest mines f.mine_is w (v == w) refl (rest.parts_are w));
      }

  mine_at : List (Pass J R) → ℕ → List (Event J R)
  mine_at [] w = []
  mine_at (p ∷ ps) zero = p.mine
  mine_at (p ∷ ps) (suc w) = mine_at ps w

  mine_of_pass : (ps : List (Pass J R)) (w : ℕ) (p : Pass J R) → slice_get ps w ≡ Some p → mine_at ps w ≡ p.mine
  unfolding mine_at
  mine_of_pass [] w p h = absurd (cc h)
  mine_of_pass (q ∷ ps) zero p h = ap (λ (x : Pass J R). x.mine) (let t : q ≡ p = cc h in t)
  mine_of_pass (q ∷ ps) (suc w) p h = mine_of_pass ps w p h

  agree : (ps : List (Pass J R)) (f : ℕ → List BareEvent) → ((w : ℕ) (p : Pass J R) → slice_get ps w ≡ Some p → f w ≡ map bare p.mine)
      → ((w : ℕ) → length ps ≤ w → f w ≡ [])
      → (w : ℕ) → f w ≡ map bare (mine_at ps w)
  unfolding mine_at
  agree [] f inside past w = past w (omega arith)
  agree (p ∷ ps) f inside past zero = inside zero p refl
  agree (p ∷ ps) f inside past (suc w) = agree ps (λ k. f (suc k)) (λ k q h. inside (suc k) q h) (λ k h. past (suc k) (omega arith)) w

  -- a stored history that agrees with every pass is that of a closed board
  pub settled : (capacity workers : ℕ) (root : J) (views : List (Pass J R)) (h : List (Event J R)) (es : List BareEvent)
      (rows : List (Ended R))
      → IsLegal capacity workers h → IsOver h → HasNumbers (length rows) h → ((k : ℕ) → Shows (status h k) (slice_get rows k))
      → map bare h ≡ es
      → length views ≡ workers → ((w : ℕ) (p : Pass J R) → slice_get views w ≡ Some p → part w es ≡ map bare p.mine)
      → Settled capacity workers root locked_promises views rows
  settled capacity workers root views h es rows legal over numbers shown is len each =
      let legal_es : IsLegal capacity workers es = subst (IsLegal capacity workers) is (legal_bare capacity workers h legal) in
      let all = agree views (λ w. part w es) each (λ w past. no_part capacity workers w es (omega (arith, len, past)) legal_es) in
      let woven = weave es (mine_at views) all in
      let same : (k : ℕ) → status woven.history k ≡ status h k =
      λ k. sym (status_bare woven.history k) ∙ (ap (λ (xs : List BareEvent). status xs k) (woven.bare_is ∙ sym is) ∙ status_bare h k) in
      record {
        history = woven.history;
        legal = legal_back capacity workers woven.history (subst (IsLegal capacity workers) (sym woven.bare_is) legal_es);
        over = λ k. (λ s. (over k).0 (sym (same k) ∙ s), λ w s. (over k).1 w (sym (same k) ∙ s));
        parts = λ w p at. woven.parts_are w ∙ mine_of_pass views w p at;
        shown = λ k. subst (λ s. Shows s (slice_get rows k)) (sym (same k)) (shown k);
        numbers = λ k. subst (λ s. (s ≡ Absent) ↔ (length rows ≤ k)) (sym (same k)) (numbers k);
        in_place = λ no. absurd (cc no);
        all_used = λ no. absurd (cc no);
      }
