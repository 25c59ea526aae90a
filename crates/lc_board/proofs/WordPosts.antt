-- A number is drawn, and then opened with a job.
use Rattle.std.proofs.Common.{◌≡◌, ◌≢◌, ℕ, eqb, subst, ◌+◌, ◌*◌, ◌<◌, true, cond, List, [], ◌∷◌, length, get_or, set, sym, refl, ap, ◌∙◌}
use Rattle.std.proofs.Common.{arith, length-set, Option, Some}
use mathlib.Core.{Logic.dite, Option.{some, none}}
use native.Mathlib.Decide.{ℕ_discrete, dec_le}
use lib.ListN.{get_elem?}
use prog.Atomic.{either}
use Rattle.std.specs.Prelude.{MatchBool}
use Rattle.atomic_table.specs.Table.{Act, keeps, takes, gives, stepped, step, rest, Allows, Valid, carried_after}
use Rattle.atomic_table.proofs.Lists.{set_else, set_here, exchanged}
use Rattle.lc_board.specs.{State.{Absent, Open, Claimed, status}, LegalHistory.IsLegal, Holding.holding, Growth.{put, job_at}}
use Rattle.lc_board.specs.{WordCode.{shown, code, word_of, is_absent}, WordSteps.IsFair}
use Rattle.lc_board.specs.WordHistory.{Seated, SlotHolds, Knows, ShowsHistory}
use Rattle.lc_board.specs.{WordSteps.{AddsEvent, TakesEmpty, drew, front_moved, opened}, declared.event.Event.{Event, TheVariants.Post}}
use Rattle.lc_board.specs.declared.words.view.{Slot.{Slot, TheVariants.{Empty, Job}}, View.View}
use Rattle.lc_board.proofs.{Growths.{at_put, put_here, put_else, whole, part_own, part_else}, WordCodes.not_absent, WordsMoved.agree_put}
use Rattle.lc_board.proofs.{WordsMoved.{held_is, still_ended, IsTold, steps_on, IsTurn, turned}, WordClaims.{St, face_here, unwritten}}
use Rattle.lc_board.proofs.WordClaims.{next_same, told_same}
use Rattle.lc_board.specs.declared.words.coding.Word.TheVariants as word

held_same : (a b : ℕ) → word.Drawn a ≡ word.Drawn b → a ≡ b
held_same a b e = cc

module _ {J R : Type 0} where
  abbrev drawn_view : View J R → List (Event J R) → ℕ → View J R
  drawn_view v h i = record v { seen = h; drawn = i + 1; front = i + 1; steps = i ∷ v.steps }

  abbrev passed_view : View J R → List (Event J R) → ℕ → View J R
  passed_view v h i = record v { seen = h; front = i + 1; steps = i ∷ v.steps }

  -- a number is drawn, by who has a claim
  module _ (root : Option J) (workers me i : ℕ) (v : View J R) (lives : v.live ≡ true) (empty : v.drawn ≡ 0) (front : v.front ≡ i)
      (q : ℕ) (claim : holding v.mine ≡ Some q)
      (s : St J R) (r : ShowsHistory root workers s) (at : get_elem? s.views me ≡ some v) (near : i < length s.homes) where
    abbrev k : Knows root workers r.history r.faces r.owner me v
    k = r.each_seat me v at lives

    module _ (gone : r.faces i ≡ word.Absent) where
      below_it : (p : ℕ) → holding v.mine ≡ Some p → p < i
      below_it p is = dite (dec_le i p) (λ le. let x : Absent ≡ Claimed v.worker = sym
          (r.state.agrees p ∙ ap shown (r.state.together i p le gone)) ∙ (held_is root workers s r me v k p).0 is in absurd (cc))
          (λ no. omega arith)

      draw_turn : IsTurn root workers s r v.worker i r.history (word.Drawn v.worker) (set s.homes i none)
      draw_turn = record {
        near = near;
        long = length-set s.homes i none;
        legal = r.state.legal;
        matched = r.state.matched;
        grows = whole r.history;
        parts = λ u ne. refl;
        agrees = λ z. at_put r.faces i (word.Drawn v.worker) (λ y f. status r.history y ≡ shown f) z (r.state.agrees i ∙ ap shown gone)
            (λ _. r.state.agrees z);
        filled = λ _ z below. k.front z (omega arith);
        some_face = λ is. cc;
        homes_else = λ z ne. set_else s.homes i z none ne;
        jobs_else = λ z ne. refl;
        rows_else = λ z ne. refl;
        lies_here = tt;
        busy = λ z w. at_put r.faces i (word.Drawn v.worker) (λ y f. f ≡ word.Drawn w → (p : ℕ) × (status r.history p ≡ Claimed w)) z
            (λ is. (q, (held_is root workers s r me v k q).0 claim ∙ ap Claimed (held_same v.worker w is))) (λ _ is. r.busy z w is);
        loose = λ u ne. (
          (λ x. let y = sym gone ∙ x in cc),
          (λ (x : word.Drawn v.worker ≡ word.Drawn u). ne (sym (held_same v.worker u x))),
          (λ x. cc),
        );
      }

      draw_told : IsTold v.worker r.history (put r.faces i (word.Drawn v.worker)) v.mine (i + 1) v.low (i + 1)
      draw_told = record {
        own = k.mine;
        drew = λ z. at_put r.faces i (word.Drawn v.worker) (λ y f. f ≡ word.Drawn v.worker → i + 1 ≡ y + 1) z (λ _. refl)
            (λ _ x. absurd (let y = k.drew z x in omega arith));
        draws = λ z is. let e : i ≡ z = omega arith in subst (λ y. put r.faces i (word.Drawn v.worker) y ≡ word.Drawn v.worker) e
            (put_here r.faces i (word.Drawn v.worker));
        ended = (told_same root workers s r me v k).ended;
        used = λ z. at_put r.faces i (word.Drawn v.worker) (λ y f. y < i + 1 → f ≢ word.Absent) z (λ _ x. cc)
            (λ ne l. k.front z (omega arith));
      }

    pass_told : r.faces i ≢ word.Absent → IsTold v.worker r.history r.faces v.mine v.drawn v.low (i + 1)
    pass_told there = record {
      own = k.mine;
      drew = k.drew;
      draws = k.draws;
      ended = (told_same root workers s r me v k).ended;
      used = λ z l. dite (ℕ_discrete z i) (λ (e : z ≡ i). λ x. there (ap r.faces (sym e) ∙ x)) (λ ne. k.front z (omega arith));
    }

  -- an exchange that draws a number keeps the row of words, whether it takes place or not
  pub draws : (root : Option J) (workers slots me : ℕ) (m : Seated J R) (i new q : ℕ) → m.0.live ≡ true → i < slots → m.0.drawn ≡ 0
      → m.0.front ≡ i → holding m.0.mine ≡ Some q → new ≡ 4 + 2 * m.0.worker
      → Allows (ShowsHistory root workers) slots me m i (λ x. either (eqb x 0) new x) (drew (step slots i 0 new none) m)
  draws root workers slots me m i new q lives near empty front claim is s r len at fits = let v = m.0 in let z : ℕ = get_or s.words i 0 in
      let near' : i < length s.homes = omega arith in let k0 = r.each_seat me v at lives in
      let G : ℕ → Type 0 = λ x. (w : View J R) × (a : Act (Slot J R)) × Valid s.homes m.1 a
      × ShowsHistory root workers (stepped s i x me m.1 w a) × drew (step slots i 0 new none) m z (w, carried_after m.1 a) in
      exchanged z 0 new G
      (λ (hit : z ≡ 0). let gone : r.faces i ≡ word.Absent = sym (face_here root workers s r i near') ∙ ap word_of hit in
      let l = subst (λ c. SlotHolds root r.history s.homes i c) gone (r.lies i near') in
      let did = steps_on root workers s r me v at lives i r.history (put r.faces i (word.Drawn v.worker)) (set s.words i (4 + 2 * v.worker))
      (set s.homes i none) v.mine (i + 1) v.low (i + 1)
      (turned root workers s r v.worker i r.history (word.Drawn v.worker) (set s.homes i none)
      (draw_turn root workers me i v lives empty front q claim s r at near' gone))
      (draw_told root workers me i v lives empty front q claim s r at near' gone) in let w = drawn_view v r.history i in
      let row = subst (λ x. ShowsHistory root workers (stepped s i x me m.1 w (takes i Empty))) (sym is) did.0 in
      let took = subst (λ b. MatchBool b (TakesEmpty i m (w, carried_after m.1 (takes i Empty)))
      ((carried_after m.1 (takes i Empty) ≡ m.1) × (w.drawn ≡ v.drawn))) (sym (ap (λ n. is_absent (word_of n)) hit))
      (refl, refl, below_it root workers me i v lives empty front q claim s r at near' gone) in
      let fair = subst (λ c. IsFair c w) len did.1 in
      (w, takes i Empty, l, row, ((refl, refl, refl, refl, refl, refl), refl, refl, (k0.seen, refl, fair), took, refl)))
      (λ (miss : z ≢ 0). let w = passed_view v r.history i in
      let did = steps_on root workers s r me v at lives i r.history r.faces s.words s.homes v.mine v.drawn v.low (i + 1)
      (next_same root workers s r v.worker) (pass_told root workers me i v lives empty front q claim s r at near'
      (λ e. miss (r.state.shows i near' ∙ ap code e))) in let row = unwritten root workers me s i w did.0 in
      let kept = subst (λ b. MatchBool b (TakesEmpty i m (w, m.1)) ((m.1 ≡ m.1) × (w.drawn ≡ v.drawn)))
      (sym (ap is_absent (face_here root workers s r i near') ∙ not_absent (r.faces i)
      (λ e. miss (r.state.shows i near' ∙ ap code e)))) (refl, refl) in
      let fair = subst (λ c. IsFair c w) len did.1 in
      (w, keeps, tt, row, ((refl, refl, refl, refl, refl, refl), refl, refl, (k0.seen, refl, fair), kept, refl)))

  -- a look at a number that another has drawn keeps it too
  pub steps_over : (root : Option J) (workers slots me : ℕ) (m : Seated J R) (i q : ℕ) → m.0.live ≡ true → i < slots → m.0.drawn ≡ 0
      → m.0.front ≡ i → holding m.0.mine ≡ Some q
      → Allows (ShowsHistory root workers) slots me m i (λ n. n) (front_moved (step slots i 0 0 none) m)
  steps_over root workers slots me m i q lives near empty front claim s r len at fits = let v = m.0 in let z : ℕ = get_or s.words i 0 in
      let near' : i < length s.homes = omega arith in let k0 = r.each_seat me v at lives in
      dite (ℕ_discrete z 0)
      (λ (hit : z ≡ 0). let w = record v { seen = r.history; steps = i ∷ v.steps } in
      let did = steps_on root workers s r me v at lives i r.history r.faces s.words s.homes v.mine v.drawn v.low v.front
      (next_same root workers s r v.worker) (told_same root workers s r me v k0) in
      let row = unwritten root workers me s i w did.0 in let fair = subst (λ c. IsFair c w) len did.1 in
      let stays = sym (ap (λ n. cond (is_absent (word_of n)) v.front (i + 1)) hit) in
      (w, keeps, tt, row, (refl, (refl, refl, refl, refl, refl, refl), refl, refl, stays, (k0.seen, refl, fair), refl)))
      (λ (miss : z ≢ 0). let w = passed_view v r.history i in
      let did = steps_on root workers s r me v at lives i r.history r.faces s.words s.homes v.mine v.drawn v.low (i + 1)
      (next_same root workers s r v.worker) (pass_told root workers me i v lives empty front q claim s r at near'
      (λ e. miss (r.state.shows i near' ∙ ap code e))) in
      let row = unwritten root workers me s i w did.0 in let fair = subst (λ c. IsFair c w) len did.1 in
      let goes = sym (ap (λ b. cond b v.front (i + 1)) (ap is_absent (face_here root workers s r i near') ∙ not_absent (r.faces i)
      (λ e. miss (r.state.shows i near' ∙ ap code e)))) in
      (w, keeps, tt, row, (refl, (refl, refl, refl, refl, refl, refl), refl, refl, goes, (k0.seen, refl, fair), refl)))

  -- the number that is drawn is opened with the job
  abbrev opened_view : View J R → ℕ → List (Event J R) → Event J R → View J R
  opened_view v i h e = record v { seen = e ∷ h; mine = e ∷ v.mine; drawn = 0; steps = i ∷ v.steps }

  module _ (root : Option J) (workers me i : ℕ) (v : View J R) (lives : v.live ≡ true) (full : v.drawn ≡ i + 1) (p : ℕ)
      (claim : holding v.mine ≡ Some p) (below : p < i) (j : J)
      (s : St J R) (r : ShowsHistory root workers s) (at : get_elem? s.views me ≡ some v) (near : i < length s.homes) where
    abbrev ko : Knows root workers r.history r.faces r.owner me v
    ko = r.each_seat me v at lives

    abbrev post : Event J R
    post = Post v.worker p i j

    has : r.faces i ≡ word.Drawn v.worker
    has = ko.draws i full

    is_new : status r.history i ≡ Absent
    is_new = r.state.agrees i ∙ ap shown has

    post_legal : IsLegal (length s.homes) workers (Post v.worker p i j ∷ r.history)
    post_legal = (r.state.legal, ko.member, ((held_is root workers s r me v ko p).0 claim, is_new, near, below))

    open_turn : IsTurn root workers s r v.worker i (Post v.worker p i j ∷ r.history) word.Open (set s.homes i (some (Job j)))
    open_turn = record {
      near = near;
      long = length-set s.homes i (some (Job j));
      legal = post_legal;
      matched = (r.state.matched, tt);
      grows = (post ∷ [], refl);
      parts = λ u ne. part_else u r.history post (λ is. ne (sym is));
      agrees = λ z. agree_put (status r.history) r.faces i Open word.Open refl r.state.agrees z;
      filled = λ is. absurd (let x = sym has ∙ is in cc);
      some_face = λ is. cc;
      homes_else = λ z ne. set_else s.homes i z (some (Job j)) ne;
      jobs_else = λ z ne. put_else (job_at root r.history) i (Some j) z ne;
      rows_else = λ z ne. refl;
      lies_here = (j, set_here s.homes i (some (Job j)) near, put_here (job_at root r.history) i (Some j));
      busy = λ z w is. let o = at_put r.faces i word.Open (λ y f. f ≡ word.Drawn w → r.faces y ≡ word.Drawn w) z (λ x. absurd (cc))
          (λ _ x. x) is in let b = r.busy z w o in (
            b.0,
            (put_else (status r.history) i Open b.0
                (λ (x : b.0 ≡ i). let y : Claimed w ≡ Absent = sym b.1 ∙ (ap (status r.history) x ∙ is_new) in cc) ∙ b.1),
          );
      loose = λ u ne. ((λ x. ne (sym (held_same v.worker u (sym has ∙ x)))), (λ x. cc), (λ x. cc));
    }

    open_told : IsTold v.worker (Post v.worker p i j ∷ r.history) (put r.faces i word.Open) (Post v.worker p i j ∷ v.mine) 0 v.low v.front
    open_told = record {
      own = part_own v.worker r.history post refl ∙ ap (λ z. post ∷ z) ko.mine;
      drew = λ z. at_put r.faces i word.Open (λ y f. f ≡ word.Drawn v.worker → 0 ≡ y + 1) z (λ x. absurd (cc))
          (λ ne x. absurd (let y = ko.drew z x in ne (omega arith)));
      draws = λ z is. absurd (omega arith);
      ended = still_ended root workers s r me v ko (Post v.worker p i j ∷ r.history) post_legal (post ∷ [], refl);
      used = λ z below. at_put r.faces i word.Open (λ y f. y < v.front → f ≢ word.Absent) z (λ _ x. cc) (λ _. ko.front z) below;
    }

  -- and so does the store that opens a drawn number with its job
  pub opens : (root : Option J) (workers slots me : ℕ) (m : Seated J R) (i p : ℕ) (j : J) → m.0.live ≡ true → i < slots
      → m.0.drawn ≡ i + 1 → holding m.0.mine ≡ Some p → p < i → m.1 ≡ (i, Job j) ∷ rest m.1
      → Allows (ShowsHistory root workers) slots me m i (λ _. 1) (opened (step slots i 1 0 none) m)
  opens root workers slots me m i p j lives near full claim below has s r len at fits = let v = m.0 in
      let near' : i < length s.homes = omega arith in let k0 = r.each_seat me v at lives in
      let e : Event J R = Post v.worker p i j in let w = opened_view v i r.history e in
      let turn = open_turn root workers me i v lives full p claim below j s r at near' in
      let did = steps_on root workers s r me v at lives i (e ∷ r.history) (put r.faces i word.Open) (set s.words i 1)
      (set s.homes i (some (Job j))) (e ∷ v.mine) 0 v.low v.front
      (turned root workers s r v.worker i (e ∷ r.history) word.Open (set s.homes i (some (Job j))) turn)
      (open_told root workers me i v lives full p claim below j s r at near') in
      let row = subst (λ (c : List (ℕ × Slot J R)). ShowsHistory root workers (stepped s i 1 me c w gives)) (sym has) did.0 in
      let adds = subst (λ c. AddsEvent c v e w) len ((r.history, k0.seen, refl), refl, did.1) in
      (w, gives, tt, row, (((refl, refl, refl, refl, refl, refl), refl, refl, refl, refl), (p, j, claim, has, adds), refl))
