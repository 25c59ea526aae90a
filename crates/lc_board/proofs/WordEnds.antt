-- A claim ends, by the row that is given; or its slot goes home, as the board is closed.
use Rattle.std.proofs.Common.{◌≡◌, ◌≢◌, ℕ, subst, ◌+◌, ◌<◌, true, List, [], ◌∷◌, length, get_or, set, sym, refl, ap, ◌∙◌, arith}
use Rattle.std.proofs.Common.{length-set, Option, Some, None}
use mathlib.Core.{Logic.dite, Option.{some, none}}
use native.Mathlib.Decide.{ℕ_discrete}
use lib.{ListN.get_elem?, Seq.set-get_or}
use Rattle.atomic_table.specs.Table.{gives, stepped, step, rest, Allows}
use Rattle.atomic_table.proofs.Lists.{set_else, set_here}
use Rattle.lc_board.specs.{State.{Absent, Claimed, status}, Part.worker_of, LegalHistory.{posts_under, IsAllowed, IsLegal}, Holding.holding}
use Rattle.lc_board.specs.{Holding.posted, RowsInPlace.row_given, Growth.{rank, put, job_at, IsRight}, Ending.{MayEnd, end_event, row_in}}
use Rattle.lc_board.specs.{WordCode.{shown, code, end_word}, WordHistory.{Homes, Seated, SlotHolds, Knows, ShowsHistory}}
use Rattle.lc_board.specs.declared.{words.{coding.Word.Word, view.{Slot.{Slot, TheVariants.{Empty, Row}}, View.View}}, event.Event.Event}
use Rattle.lc_board.specs.{declared.answers.Ended.Ended, WordSteps.{AddsEvent, slot_released}}
use Rattle.lc_board.proofs.{HeldClaims.posted_nothing, Growths.{at_put, put_here, put_else, part_own, part_else}, WordsMoved.agree_put}
use Rattle.lc_board.proofs.{WordsMoved.{of_shown, held_is, IsNext, still_ended, IsTold, steps_on, lies_stay, IsTurn, turned}, WordClaims.St}
use Rattle.lc_board.proofs.WordClaims.{added, next_same, told_same}
use Rattle.lc_board.specs.declared.words.coding.Word.TheVariants as word
use Rattle.lc_board.specs.WordSteps as steps
use Rattle.lc_board.specs.declared.answers.Ended.TheVariants as ended

taken_same : (a b : ℕ) → Claimed a ≡ Claimed b → a ≡ b
taken_same a b e = cc

by_worker : {R : Type 0} (J : Type 0) (w i : ℕ) (x : Ended R) → worker_of (end_event {J = J} w i x) ≡ w
by_worker J w i (ended.Returned r) = refl
by_worker J w i (ended.Faulted r) = refl

end_rank : {R : Type 0} (x : Ended R) → rank (shown (end_word x)) ≡ 3
end_rank (ended.Returned r) = refl
end_rank (ended.Faulted r) = refl

module _ {J R : Type 0} where
  end_moves : (w i : ℕ) (x : Ended R) (h : List (Event J R)) (z : ℕ)
      → status (end_event w i x ∷ h) z ≡ put (status h) i (shown (end_word x)) z
  end_moves w i (ended.Returned r) h z = refl
  end_moves w i (ended.Faulted r) h z = refl

  end_jobs : (root : Option J) (w i : ℕ) (x : Ended R) (h : List (Event J R)) (z : ℕ)
      → job_at root (end_event w i x ∷ h) z ≡ job_at root h z
  end_jobs root w i (ended.Returned r) h z = refl
  end_jobs root w i (ended.Faulted r) h z = refl

  end_rows : (w i : ℕ) (x : Ended R) (h : List (Event J R)) (z : ℕ) → row_given (end_event w i x ∷ h) z ≡ put (row_given h) i (Some x) z
  end_rows w i (ended.Returned r) h z = refl
  end_rows w i (ended.Faulted r) h z = refl

  end_right : (root : Option J) (w i : ℕ) (x : Ended R) (h : List (Event J R)) → IsRight root h (end_event w i x)
  end_right root w i (ended.Returned r) h = tt
  end_right root w i (ended.Faulted r) h = tt

  end_lies : (root : Option J) (i : ℕ) (x : Ended R) (h : List (Event J R)) (hs : Homes J R)
      → get_elem? hs i ≡ some (some (Row (row_in x))) → row_given h i ≡ Some x → SlotHolds root h hs i (end_word x)
  end_lies root i (ended.Returned r) h hs a b = (r, a, b)
  end_lies root i (ended.Faulted r) h hs a b = (r, a, b)

  end_allowed : (cap w i posts : ℕ) (x : Ended R) (h : List (Event J R)) → status h i ≡ Claimed w → MayEnd posts x
      → (posts ≡ 0 → posts_under i h ≡ []) → IsAllowed cap h (end_event w i x)
  end_allowed cap w i posts (ended.Returned r) h c may fresh = c
  end_allowed cap w i posts (ended.Faulted r) h c may fresh = (c, fresh may)

  -- an end frees its worker
  pub end_frees : (w i : ℕ) (x : Ended R) (h : List (Event J R)) → holding (end_event w i x ∷ h) ≡ None
  end_frees w i (ended.Returned r) h = refl
  end_frees w i (ended.Faulted r) h = refl

  -- and it has posted nothing under a next claim
  pub end_posts : (w i : ℕ) (x : Ended R) (h : List (Event J R)) → posted (end_event w i x ∷ h) ≡ 0
  end_posts w i (ended.Returned r) h = refl
  end_posts w i (ended.Faulted r) h = refl

  module _ (root : Option J) (workers me i : ℕ) (v : View J R) (lives : v.live ≡ true) (empty : v.drawn ≡ 0)
      (claim : holding v.mine ≡ Some i) (x : Ended R) (may : MayEnd (posted v.mine) x)
      (s : St J R) (r : ShowsHistory root workers s) (at : get_elem? s.views me ≡ some v) (near : i < length s.homes) where
    abbrev c : Word
    c = end_word x

    abbrev e : Event J R
    e = end_event v.worker i x

    apart : (u : ℕ) → shown c ≢ Claimed u
    apart u is = let y = sym (end_rank x) ∙ ap rank is in omega arith

    there : shown c ≢ Absent
    there is = let y = sym (end_rank x) ∙ ap rank is in omega arith

    undrawn : (u : ℕ) → c ≢ word.Drawn u
    undrawn u is = there (ap shown is)

    abbrev k : Knows root workers r.history r.faces r.owner me v
    k = r.each_seat me v at lives

    was : status r.history i ≡ Claimed v.worker
    was = (held_is root workers s r me v k i).0 claim

    had : r.faces i ≡ word.Claimed v.worker
    had = of_shown (r.faces i) v.worker (sym (r.state.agrees i) ∙ was)

    nothing : posted v.mine ≡ 0 → posts_under i r.history ≡ []
    nothing e = (posted_nothing (length s.homes) workers r.history r.state.legal v.worker i was).0 (ap posted k.mine ∙ e)

    end_legal : IsLegal (length s.homes) workers (e ∷ r.history)
    end_legal = (
      r.state.legal,
      subst (λ u. u < workers) (sym (by_worker J v.worker i x)) k.member,
      end_allowed (length s.homes) v.worker i (posted v.mine) x r.history was may nothing,
    )

    end_turn : IsTurn root workers s r v.worker i (e ∷ r.history) c (set s.homes i (some (Row (row_in x))))
    end_turn = record {
      near = near;
      long = length-set s.homes i (some (Row (row_in x)));
      legal = end_legal;
      matched = (r.state.matched, end_right root v.worker i x r.history);
      grows = (e ∷ [], refl);
      parts = λ u ne. part_else u r.history e (λ is. ne (sym (sym (by_worker J v.worker i x) ∙ is)));
      agrees = λ z. end_moves v.worker i x r.history z ∙ agree_put (status r.history) r.faces i (shown c) c refl r.state.agrees z;
      filled = λ is. absurd (let y = sym had ∙ is in cc);
      some_face = λ is. there (ap shown is);
      homes_else = λ z ne. set_else s.homes i z (some (Row (row_in x))) ne;
      jobs_else = λ z ne. end_jobs root v.worker i x r.history z;
      rows_else = λ z ne. end_rows v.worker i x r.history z ∙ put_else (row_given r.history) i (Some x) z ne;
      lies_here = end_lies root i x (e ∷ r.history) (set s.homes i (some (Row (row_in x))))
          (set_here s.homes i (some (Row (row_in x))) near)
          (end_rows v.worker i x r.history i ∙ put_here (row_given r.history) i (Some x));
      busy = λ z w is. let f = at_put r.faces i c (λ y f. f ≡ word.Drawn w → r.faces y ≡ word.Drawn w) z (λ y. absurd (undrawn w y))
          (λ _ y. y) is in let b = r.busy z w f in (
            b.0,
            end_moves v.worker i x r.history b.0 ∙ (put_else (status r.history) i (shown c) b.0 (λ (y : b.0 ≡ i).
                let u : w ≡ v.worker = taken_same w v.worker (sym b.1 ∙ (ap (status r.history) y ∙ was)) in let d = k.drew z
                (f ∙ ap word.Drawn u) in absurd (omega arith)) ∙ b.1),
          );
      loose = λ u ne. ((λ y. let z = sym had ∙ y in cc), undrawn u, (λ y. apart u (ap shown y)));
    }

    end_told : IsTold v.worker (e ∷ r.history) (put r.faces i c) (e ∷ v.mine) v.drawn v.low v.front
    end_told = record {
      own = part_own v.worker r.history e (by_worker J v.worker i x) ∙ ap (λ z. e ∷ z) k.mine;
      drew = λ z. at_put r.faces i c (λ y f. f ≡ word.Drawn v.worker → v.drawn ≡ y + 1) z (λ y. absurd (undrawn v.worker y))
          (λ _ y. k.drew z y);
      draws = λ z is. absurd (omega arith);
      ended = still_ended root workers s r me v k (e ∷ r.history) end_legal (e ∷ [], refl);
      used = λ z below. at_put r.faces i c (λ y f. y < v.front → f ≢ word.Absent) z (λ _ y. there (ap shown y)) (λ _. k.front z) below;
    }

  -- an exchange that ends a claim keeps the row of words
  pub ends_claim : (root : Option J) (workers slots me : ℕ) (m : Seated J R) (i new : ℕ) (x : Ended R) → m.0.live ≡ true → i < slots
      → m.0.drawn ≡ 0 → holding m.0.mine ≡ Some i → MayEnd (posted m.0.mine) x → new ≡ code (end_word x)
      → m.1 ≡ (i, Row (row_in x)) ∷ rest m.1
      → Allows (ShowsHistory root workers) slots me m i (λ _. new) (steps.ended (step slots i new 0 none) m)
  ends_claim root workers slots me m i new x lives near empty claim may coded has s r len at fits = let v = m.0 in
      let near' : i < length s.homes = omega arith in let k0 = r.each_seat me v at lives in
      let e : Event J R = end_event v.worker i x in let w = added v i r.history e in
      let turn = end_turn root workers me i v lives empty claim x may s r at near' in
      let to = set s.homes i (some (Row (row_in x))) in
      let did = steps_on root workers s r me v at lives i (e ∷ r.history) (put r.faces i (end_word x)) (set s.words i (code (end_word x)))
      to (e ∷ v.mine) v.drawn v.low v.front (turned root workers s r v.worker i (e ∷ r.history) (end_word x) to turn)
      (end_told root workers me i v lives empty claim x may s r at near') in
      let row = subst (λ (c : List (ℕ × Slot J R)). ShowsHistory root workers (stepped s i new me c w gives)) (sym has)
      (subst (λ n. ShowsHistory root workers record { words = set s.words i n; homes = to; views = set s.views me w }) (sym coded) did.0) in
      let adds = subst (λ c. AddsEvent c v e w) len ((r.history, k0.seen, refl), refl, did.1) in
      (w, gives, tt, row, (((refl, refl, refl, refl, refl, refl), empty, refl, refl, refl), (x, coded, has, adds), refl))

  -- the slot of a claim goes home, and nothing else changes
  pub puts_down : (root : Option J) (workers slots me : ℕ) (m : Seated J R) (i : ℕ) → m.0.live ≡ true → i < slots → m.0.drawn ≡ 0
      → holding m.0.mine ≡ Some i → m.1 ≡ (i, Empty) ∷ rest m.1
      → Allows (ShowsHistory root workers) slots me m i (λ n. n) (slot_released (step slots i 0 0 none) m)
  puts_down root workers slots me m i lives near empty claim has s r len at fits = let v = m.0 in
      let near' : i < length s.homes = omega arith in let k0 = r.each_seat me v at lives in
      let there = (held_is root workers s r me v k0 i).0 claim in
      let face : r.faces i ≡ word.Claimed v.worker = of_shown (r.faces i) v.worker (sym (r.state.agrees i) ∙ there) in
      let hs : Homes J R = set s.homes i (some Empty) in
      let w : View J R = record v { seen = r.history; steps = i ∷ v.steps } in
      let base = next_same root workers s r v.worker in
      let next : IsNext root workers s r v.worker r.history r.faces s.words hs = record {
        long = length-set s.homes i (some Empty);
        wide = refl;
        state = base.state;
        grows = base.grows;
        parts = base.parts;
        lies = λ z l. dite (ℕ_discrete z i) (λ is. subst (λ c. SlotHolds root r.history hs z c) (sym (ap r.faces is ∙ face)) tt)
            (λ ne. lies_stay root r.history r.history s.homes hs z (set_else s.homes i z (some Empty) ne) refl refl (r.faces z)
            (r.lies z l));
        busy = base.busy;
        apart = base.apart;
        more = base.more;
      } in (
        w,
        gives,
        tt,
        subst (λ (c : List (ℕ × Slot J R)). ShowsHistory root workers (stepped s i (get_or s.words i 0) me c w gives)) (sym has)
            (subst (λ (ws : List ℕ). ShowsHistory root workers record { words = ws; homes = hs; views = set s.views me w })
            (sym (set-get_or s.words i 0))
            (steps_on root workers s r me v at lives i r.history r.faces s.words hs v.mine v.drawn v.low v.front next
            (told_same root workers s r me v k0)).0),
        (((refl, refl, refl, refl, refl, refl), empty, refl, refl, refl), (k0.seen, refl), refl),
      )
