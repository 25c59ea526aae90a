-- A look at a word keeps the row of words, and so does a claim of an open number.
use Rattle.std.proofs.Common.{rules}
use Rattle.std.proofs.lemmas.Grind.{common_steps}
use Rattle.std.proofs.Common.{◌≡◌, ◌≢◌, ℕ, eqb, subst, ◌+◌, ◌*◌, ◌<◌, ◌≤◌, ◌⊎◌, Bool, true, false, List, [], ◌∷◌, length, get_or, set}
use Rattle.std.proofs.{Common.{sym, refl, ap, ◌∙◌, inl, inr, ⊎_elim, arith, length-set, Option, Some, None}, lemmas.Bool.Decides.nat_tests}
use mathlib.Core.{Logic.dite, Option.{some, none}}
use lib.{ListN.get_elem?, Seq.set-get_or}
use prog.Atomic.{either}
use Rattle.std.specs.Prelude.{MatchBool}
use Rattle.atomic_table.specs.Table.{State, Act, keeps, takes, stepped, step, Allows, Valid, carried_after}
use Rattle.atomic_table.proofs.Lists.{set_else, exchanged}
use Rattle.lc_board.specs.{State.{Absent, Open, Claimed, status}, Part.part, LegalHistory.{IsAllowed, IsLegal}, Holding.holding}
use Rattle.lc_board.specs.{Growth.{rank, put, job_at}, WordCode.{shown, code, word_of, is_absent, is_open, has_ended}, WordHistory.Seated}
use Rattle.lc_board.specs.WordHistory.{SlotHolds, Knows, ShowsHistory}
use Rattle.lc_board.specs.declared.words.{coding.Word.Word, view.{Slot.{Slot, TheVariants.Job}, View.View}}
use Rattle.lc_board.specs.{declared.event.Event.{Event, TheVariants.{Claim, Over}}, WordSteps.{ExtendsFairly, AddsEvent, SomeHolds, Finds}}
use Rattle.lc_board.specs.WordSteps.{HasLooked, looked, TakesJob, claimed, low_after, TakesStep, last_look}
use Rattle.lc_board.proofs.{HeldClaims.part_tells_claim, Growths.{at_put, put_else, whole, part_own, part_else}, WordCodes.decoded}
use Rattle.lc_board.proofs.{WordCodes.{absent_is, not_open, ended_rank}, WordsMoved.{apart_same, agree_put, held_is, still_ended, IsTold}}
use Rattle.lc_board.proofs.WordsMoved.{IsNext, steps_on, lies_stay, IsTurn, turned}
use Rattle.lc_board.specs.declared.words.coding.Word.TheVariants as word

low_tells : (cap i low : ℕ) (x : Word) (z : ℕ) → z < low_after cap i low x → (z < low) ⊎ ((z ≡ i) × (has_ended x ≡ true))
low_tells cap i low x z h = grind (arith, nat_tests)

last_tells : (cap i low : ℕ) (x : Word) → last_look cap i low x ≡ true
    → (low ≡ i) × ((is_absent x ≡ true) ⊎ ((has_ended x ≡ true) × (i + 1 ≡ cap)))
last_tells cap i low x h = grind (arith, nat_tests)

abbrev pub St : Type 0 → Type 0 → Type 0
St J R = State (Slot J R) (View J R)

module _ {J R : Type 0} where
  -- nothing changes but what the pass has seen
  pub next_same : (root : Option J) (workers : ℕ) (s : St J R) (r : ShowsHistory root workers s) (worker : ℕ)
      → IsNext root workers s r worker r.history r.faces s.words s.homes
  next_same root workers s r worker = grind (arith, common_steps, whole, apart_same)

  -- so what it has seen is its own as before
  pub told_same : (root : Option J) (workers : ℕ) (s : St J R) (r : ShowsHistory root workers s) (me : ℕ) (v : View J R)
      → Knows root workers r.history r.faces r.owner me v → IsTold v.worker r.history r.faces v.mine v.drawn v.low v.front
  told_same root workers s r me v h1 = search (rules, arith, still_ended, whole)

  -- the word of a number says what the number is
  pub face_here : (root : Option J) (workers : ℕ) (s : St J R) (r : ShowsHistory root workers s) (i : ℕ) → i < length s.homes
      → word_of (get_or s.words i 0) ≡ r.faces i
  face_here root workers s r i near = ap word_of (r.state.shows i near) ∙ decoded (r.faces i)

  -- a step that writes the word that was there writes nothing
  pub unwritten : (root : Option J) (workers me : ℕ) (s : St J R) (i : ℕ) (w : View J R)
      → ShowsHistory root workers record { words = s.words; homes = s.homes; views = set s.views me w }
      → ShowsHistory root workers record { words = set s.words i (get_or s.words i 0); homes = s.homes; views = set s.views me w }
  unwritten root workers me s i w h1 = grind (arith, common_steps, set-get_or)

  -- what a look tells of a number is so of the history
  pub finds : (root : Option J) (workers : ℕ) (s : St J R) (r : ShowsHistory root workers s) (i : ℕ) (h' : List (Event J R)) (w : View J R)
      → IsLegal (length s.homes) workers h' → ((k : ℕ) → status w.seen k ≡ status r.history k)
      → part w.worker h' ≡ w.mine → w.seen ≡ h' → Finds i (r.faces i) w
  finds root workers s r i h' w legal same own is_h = found (r.faces i) refl
    where
      some_holds : (p u : ℕ) → status r.history p ≡ Claimed u → SomeHolds w
      some_holds p u t = (
        p,
        u,
        same p ∙ t,
        λ free e.
            let there : status h' p ≡ Claimed w.worker = ap (λ y. status y p) (sym is_h) ∙ (same p ∙ (t ∙ ap Claimed e)) in
            let told = part_tells_claim (length s.homes) workers h' legal w.worker in
            let x : None ≡ Some p = sym free ∙ (ap holding (sym own) ∙ (told.claimed p).1 there) in cc,
      )

      found : (c : Word) → r.faces i ≡ c → Finds i c w
      found word.Absent e = λ k le. same k ∙ (r.state.agrees k ∙ ap shown (r.state.together i k le e))
      found (word.Drawn u) e = let p = r.busy i u e in (same i ∙ (r.state.agrees i ∙ ap shown e), some_holds p.0 u p.1)
      found (word.Claimed u) e = (same i ∙ (r.state.agrees i ∙ ap shown e), some_holds i u (r.state.agrees i ∙ ap shown e))
      found _ e = same i ∙ (r.state.agrees i ∙ ap shown e)

  abbrev looked_view : View J R → ℕ → List (Event J R) → ℕ → View J R
  looked_view v i h low = record v { seen = h; low = low; steps = i ∷ v.steps }

  abbrev over_view : View J R → ℕ → List (Event J R) → ℕ → View J R
  over_view v i h low = record v { seen = Over v.worker ∷ h; mine = Over v.worker ∷ v.mine; low = low; steps = i ∷ v.steps }

  module _ (root : Option J) (workers me i : ℕ) (v : View J R) (lives : v.live ≡ true) (s : St J R) (r : ShowsHistory root workers s)
      (at : get_elem? s.views me ≡ some v) (near : i < length s.homes) where
    km : Knows root workers r.history r.faces r.owner me v
    km = r.each_seat me v at lives

    ended_now : (z : ℕ) → z < v.low → rank (status r.history z) ≡ 3
    ended_now = still_ended root workers s r me v km r.history r.state.legal (whole r.history)

    ended_here : has_ended (r.faces i) ≡ true → rank (status r.history i) ≡ 3
    ended_here e = ap rank (r.state.agrees i) ∙ ended_rank (r.faces i) e

    low_now : (z : ℕ) → z < low_after (length s.homes) i v.low (r.faces i) → rank (status r.history z) ≡ 3
    low_now z h1 = grind (arith, common_steps, ended_now, ended_here, low_tells)

    beyond_now : (z : ℕ) → length s.homes ≤ z → status r.history z ≡ Absent
    beyond_now z far = r.state.agrees z ∙ ap shown (r.state.beyond z far)

    abbrev mark : ℕ
    mark = low_after (length s.homes) i v.low (r.faces i)

    looked_told : IsTold v.worker r.history r.faces v.mine v.drawn mark v.front
    looked_told = record { own = km.mine; drew = km.drew; draws = km.draws; ended = low_now; used = km.front }

    module _ (last : (v.low ≡ i) × ((is_absent (r.faces i) ≡ true) ⊎ ((has_ended (r.faces i) ≡ true) × (i + 1 ≡ length s.homes)))) where
      all_done : (z : ℕ) → (rank (status r.history z) ≡ 3) ⊎ (status r.history z ≡ Absent)
      all_done z = grind (arith, common_steps, ended_now, absent_is, ended_here, beyond_now)

      over_allowed : IsAllowed (length s.homes) r.history (Over v.worker)
      over_allowed z = ⊎_elim (λ (e : rank (status r.history z) ≡ 3). (
        (λ is. let x = sym e ∙ ap rank is in omega arith),
        (λ u is. let x = sym e ∙ ap rank is in omega arith),
      ))
          (λ (e : status r.history z ≡ Absent). ((λ is. let x = sym e ∙ is in cc), (λ u is. let x = sym e ∙ is in cc))) (all_done z)

      over_legal : IsLegal (length s.homes) workers (Over v.worker ∷ r.history)
      over_legal = (r.state.legal, km.member, over_allowed)

      over_next : IsNext root workers s r v.worker (Over v.worker ∷ r.history) r.faces s.words s.homes
      over_next = record {
        long = refl;
        wide = refl;
        state = record {
          legal = over_legal;
          matched = (r.state.matched, tt);
          shows = r.state.shows;
          agrees = r.state.agrees;
          beyond = r.state.beyond;
          together = r.state.together;
        };
        grows = (Over v.worker ∷ [], refl);
        parts = λ u ne. part_else u r.history (Over v.worker) (λ is. ne (sym is));
        lies = λ z l. lies_stay root r.history (Over v.worker ∷ r.history) s.homes s.homes z refl refl refl (r.faces z) (r.lies z l);
        busy = r.busy;
        apart = λ u ne. apart_same u r.faces;
        more = λ z e. e;
      }

      over_told : IsTold v.worker (Over v.worker ∷ r.history) r.faces (Over v.worker ∷ v.mine) v.drawn mark v.front
      over_told = grind (arith, common_steps, part_own, km, low_now)

    -- the step, by whether it is the last look
    pub misses : (b : Bool) → last_look (length s.homes) i v.low (r.faces i) ≡ b
        → (w : View J R) × ShowsHistory root workers record { words = s.words; homes = s.homes; views = set s.views me w }
        × HasLooked (length s.homes) i (r.faces i) v w × TakesStep i v w
    misses false is = let did = steps_on root workers s r me v at lives i r.history r.faces s.words s.homes v.mine v.drawn mark v.front
        (next_same root workers s r v.worker) looked_told in let w = looked_view v i r.history mark in
        let word = finds root workers s r i r.history w r.state.legal (λ z. refl) km.mine refl in
        let more = subst (λ b. MatchBool b (AddsEvent (length s.homes) v (Over v.worker) w) (ExtendsFairly (length s.homes) v w)) (sym is)
        (km.seen, refl, did.1) in
        (w, did.0, ((refl, refl, refl, refl, refl, refl), refl, refl, refl, low_now, beyond_now, word, more), refl)
    misses true is = let last = last_tells (length s.homes) i v.low (r.faces i) is in let e : Event J R = Over v.worker in
        let told = over_told last in
        let did = steps_on root workers s r me v at lives i (e ∷ r.history) r.faces s.words s.homes (e ∷ v.mine)
        v.drawn mark v.front (over_next last) told in let w = over_view v i r.history mark in
        let word = finds root workers s r i (e ∷ r.history) w (over_legal last) (λ z. refl) told.own refl in
        let more = subst (λ b. MatchBool b (AddsEvent (length s.homes) v (Over v.worker) w) (ExtendsFairly (length s.homes) v w)) (sym is)
        ((r.history, km.seen, refl), refl, did.1) in
        (w, did.0, ((refl, refl, refl, refl, refl, refl), refl, refl, refl, low_now, beyond_now, word, more), refl)

  -- a look keeps the row of words
  pub looks : (root : Option J) (workers slots me : ℕ) (m : Seated J R) (i : ℕ) → m.0.live ≡ true → i < slots
      → Allows (ShowsHistory root workers) slots me m i (λ n. n) (looked (step slots i 0 0 none) m)
  looks root workers slots me m i lives near s r len at fits = let v = m.0 in let near' : i < length s.homes = omega arith in
      let did = misses root workers me i v lives s r at near' (last_look (length s.homes) i v.low (r.faces i)) refl in
      let saw = subst (λ (z : ℕ × Word). HasLooked z.0 i z.1 v did.0) (λ k. (len k, sym (face_here root workers s r i near') k)) did.2 in
      (did.0, keeps, tt, unwritten root workers me s i did.0 did.1, (refl, saw, did.3))

  abbrev pub added : View J R → ℕ → List (Event J R) → Event J R → View J R
  added v i h e = record v { seen = e ∷ h; mine = e ∷ v.mine; steps = i ∷ v.steps }

  -- a claim takes the job that was posted
  module _ (root : Option J) (workers me i : ℕ) (v : View J R) (lives : v.live ≡ true) (free : holding v.mine ≡ None) where
    module _ (s : St J R) (r : ShowsHistory root workers s) (at : get_elem? s.views me ≡ some v) (near : i < length s.homes)
        (open_there : r.faces i ≡ word.Open) (j : J) (lies : get_elem? s.homes i ≡ some (some (Job j)))
        (posted_there : job_at root r.history i ≡ Some j) where
      abbrev h : List (Event J R)
      h = r.history

      abbrev e : Event J R
      e = Claim v.worker i j

      abbrev k : Knows root workers r.history r.faces r.owner me v
      k = r.each_seat me v at lives

      was : status r.history i ≡ Open
      was = r.state.agrees i ∙ ap shown open_there

      none_mine : (z : ℕ) → status r.history z ≡ Claimed v.worker → ⊥
      none_mine z is = let g = (held_is root workers s r me v k z).1 is in let x = sym free ∙ g in cc

      claim_legal : IsLegal (length s.homes) workers (Claim v.worker i j ∷ r.history)
      claim_legal = (r.state.legal, k.member, (was, none_mine))

      claim_turn : IsTurn root workers s r v.worker i (Claim v.worker i j ∷ r.history) (word.Claimed v.worker) (set s.homes i none)
      claim_turn = record {
        near = near;
        long = length-set s.homes i none;
        legal = claim_legal;
        matched = (r.state.matched, posted_there);
        grows = (e ∷ [], refl);
        parts = λ u ne. part_else u h e (λ is. ne (sym is));
        agrees = λ z. agree_put (status h) r.faces i (Claimed v.worker) (word.Claimed v.worker) refl r.state.agrees z;
        filled = λ is. absurd (let x = sym open_there ∙ is in cc);
        some_face = λ is. cc;
        homes_else = λ z ne. set_else s.homes i z none ne;
        jobs_else = λ z ne. refl;
        rows_else = λ z ne. refl;
        lies_here = tt;
        busy = λ z w is. let o = at_put r.faces i (word.Claimed v.worker) (λ y f. f ≡ word.Drawn w → r.faces y ≡ word.Drawn w) z
            (λ x. absurd (cc)) (λ _ x. x) is in let p = r.busy z w o in (
              p.0,
              (put_else (status h) i (Claimed v.worker) p.0
                  (λ (x : p.0 ≡ i). let y : Claimed w ≡ Open = sym p.1 ∙ (ap (status h) x ∙ was) in cc) ∙ p.1),
            );
        loose = λ u ne. (
          (λ x. let y = sym open_there ∙ x in cc),
          (λ x. cc),
          (λ (x : word.Claimed v.worker ≡ word.Claimed u). let y : v.worker ≡ u = cc in ne (sym y)),
        );
      }

      claim_told : IsTold v.worker (Claim v.worker i j ∷ r.history) (put r.faces i (word.Claimed v.worker)) (Claim v.worker i j ∷ v.mine)
          v.drawn v.low v.front
      claim_told = record {
        own = part_own v.worker h e refl ∙ ap (λ z. e ∷ z) k.mine;
        drew = λ z. at_put r.faces i (word.Claimed v.worker) (λ y f. f ≡ word.Drawn v.worker → v.drawn ≡ y + 1) z (λ x. absurd (cc))
            (λ _ x. k.drew z x);
        draws = λ z is. let x = k.draws z is in put_else r.faces i (word.Claimed v.worker) z
            (λ (o : z ≡ i). let y : word.Drawn v.worker ≡ word.Open = sym x ∙ (ap r.faces o ∙ open_there) in cc) ∙ x;
        ended = still_ended root workers s r me v k (Claim v.worker i j ∷ r.history) claim_legal (e ∷ [], refl);
        used = λ z below. at_put r.faces i (word.Claimed v.worker) (λ y f. y < v.front → f ≢ word.Absent) z (λ _ x. cc)
            (λ _. k.front z) below;
      }

  -- so does an exchange that claims, whether it takes place or not
  pub claims : (root : Option J) (workers slots me : ℕ) (m : Seated J R) (i new : ℕ) → m.0.live ≡ true → i < slots
      → holding m.0.mine ≡ None → new ≡ 5 + 2 * m.0.worker
      → Allows (ShowsHistory root workers) slots me m i (λ n. either (eqb n 1) new n) (claimed (step slots i 1 new none) m)
  claims root workers slots me m i new lives near free is s r len at fits = let v = m.0 in let z : ℕ = get_or s.words i 0 in
      let near' : i < length s.homes = omega arith in
      let G : ℕ → Type 0 = λ n. (w : View J R) × (a : Act (Slot J R)) × Valid s.homes m.1 a
      × ShowsHistory root workers (stepped s i n me m.1 w a) × claimed (step slots i 1 new none) m z (w, carried_after m.1 a) in
      exchanged z 1 new G
      (λ (hit : z ≡ 1). let there : r.faces i ≡ word.Open = sym (face_here root workers s r i near') ∙ ap word_of hit in
      let l = subst (λ c. SlotHolds root r.history s.homes i c) there (r.lies i near') in
      let e : Event J R = Claim v.worker i l.0 in let k = r.each_seat me v at lives in let w = added v i r.history e in
      let turn = claim_turn root workers me i v lives free s r at near' there l.0 l.1 l.2 in
      let did = steps_on root workers s r me v at lives i (e ∷ r.history) (put r.faces i (word.Claimed v.worker))
      (set s.words i (5 + 2 * v.worker)) (set s.homes i none) (e ∷ v.mine) v.drawn v.low v.front
      (turned root workers s r v.worker i (e ∷ r.history) (word.Claimed v.worker) (set s.homes i none) turn)
      (claim_told root workers me i v lives free s r at near' there l.0 l.1 l.2) in
      let adds = subst (λ c. AddsEvent c v e w) len ((r.history, k.seen, refl), refl, did.1) in (
        w,
        takes i (Job l.0),
        l.1,
        subst (λ n. ShowsHistory root workers (stepped s i n me m.1 w (takes i (Job l.0)))) (sym is) did.0,
        subst (λ b. MatchBool b (TakesJob (step slots i 1 new none) m (w, carried_after m.1 (takes i (Job l.0))))
            (looked (step slots i 1 new none) m z (w, carried_after m.1 (takes i (Job l.0))))) (sym (ap (λ n. is_open (word_of n)) hit))
            (l.0, (refl, refl, refl, refl, refl, refl), refl, refl, refl, refl, adds, refl),
      ))
      (λ (miss : z ≢ 1). let did = misses root workers me i v lives s r at near' (last_look (length s.homes) i v.low (r.faces i)) refl in (
        did.0,
        keeps,
        tt,
        unwritten root workers me s i did.0 did.1,
        subst (λ b. MatchBool b (TakesJob (step slots i 1 new none) m (did.0, carried_after m.1 keeps))
            (looked (step slots i 1 new none) m z (did.0, carried_after m.1 keeps)))
            (sym (ap is_open (face_here root workers s r i near') ∙ not_open (r.faces i) (λ e. miss (r.state.shows i near' ∙ ap code e)))) (
              refl,
              subst (λ (y : ℕ × Word). HasLooked y.0 i y.1 v did.0) (λ k. (len k, sym (face_here root workers s r i near') k)) did.2,
              did.3,
            ),
      ))
