-- What a closed row of words says of one history, and of the rows that are taken out of it.
use Rattle.std.proofs.lemmas.Grind.{common_steps}
use Rattle.std.proofs.Common.{◌≡◌, ◌≢◌, ℕ, zero, suc, ◌+◌, ◌<◌, ◌≤◌, ◌==◌, ◌⊎◌, Bool, true, false, cond, ltb, List, [], ◌∷◌, ◌++◌, length}
use Rattle.std.proofs.Common.{get_or, slice_get, sym, refl, ap, ◌∙◌, subst, inl, inr, ⊎_elim, arith, Option, Some, None}
use Rattle.std.proofs.lemmas.{Bool.{eqb-true, Decides.nat_tests}, Option.{slice_get_past, slice_get_within}}
use mathlib.Core.Logic.{dite}
use mathlib.Core.Option.{some, some-injective, some-ne-none}
use native.Mathlib.Decide.{ℕ_discrete, dec_lt}
use lib.ListN.{get_elem?}
use Rattle.atomic_table.specs.Table.{Final, Seen}
use Rattle.lc_board.specs.{State.{Status, Absent, Open, Claimed, Returned, Faulted, status}, Part.part, LegalHistory.{IsLegal, IsOver}}
use Rattle.lc_board.specs.{RowsInPlace.{job_posted, job_got, row_given}, Laws.GivenAs, Pass.Pass}
use Rattle.lc_board.specs.{ClosedBoard.{Shows, IsUnended, Settled, Unfinished, Finished}, Growth.{rank, job_at, IsMatched}}
use Rattle.lc_board.specs.{WordCode.{shown, word_of, is_absent, has_ended}, WordHistory.{Homes, SlotHolds, Knows, ShowsState, ShowsHistory}}
use Rattle.lc_board.specs.declared.{words.coding.Word.Word, event.Event.{Event, TheVariants.{Post, Claim, Return, Fault, Over}}}
use Rattle.lc_board.specs.{declared.{answers.Ended.Ended, words.view.{Slot.{Slot, TheVariants.Row}, View.View}}, WordSteps.{merged, larger}}
use Rattle.lc_board.specs.WordClose.{words_promises, word_at, ended_as, Tells, HasTaken, ShowsClosedHistory, EndedBelow, HasRows, TakesRows}
use Rattle.lc_board.specs.declared.words.coding.Word.TheVariants as word
use Rattle.lc_board.proofs.{Places.{at_same, at_other, apart, get_there, get_push_same, get_push_other}, NumbersOnce.ended_has_row}
use Rattle.lc_board.proofs.WordCodes.{decoded, absent_is, ended_rank}

index_at : (l : List ℕ) (i a : ℕ) → get_elem? l i ≡ some a → get_or l i 0 ≡ a
index_at [] i a e = absurd (some-ne-none a (sym e))
index_at (x ∷ xs) zero a e = some-injective x a e
index_at (x ∷ xs) (suc i) a e = index_at xs i a e

-- the word at a place is that of its code
pub word_here : (codes : List ℕ) (i a : ℕ) → get_elem? codes i ≡ some a → word_at codes i ≡ word_of a
word_here codes i a e = ap word_of (index_at codes i a e)

-- the worker of a claim is one of the board's
named_by : (n w : ℕ) (b : Bool) (u : ℕ) (s : Status) → (b ≡ true → u ≡ w → w < n) → (s ≡ Claimed w → w < n)
    → cond b (Claimed u) s ≡ Claimed w → w < n
named_by n w b u s h1 h2 h3 = grind (arith, common_steps)

not_named : (n w : ℕ) (b : Bool) (x s : Status) → x ≢ Claimed w → (s ≡ Claimed w → w < n) → cond b x s ≡ Claimed w → w < n
not_named n w b x s h1 h2 h3 = grind (arith, common_steps)

-- a number is claimed by a worker that there is
pub claimed_member : {J R : Type 0} (c n : ℕ) (h : List (Event J R)) → IsLegal c n h → (k w : ℕ) → status h k ≡ Claimed w → w < n
claimed_member c n [] l k w e = grind (arith, common_steps, not_named, named_by)
claimed_member c n (Post v p i j ∷ h) l k w e = grind (arith, common_steps, not_named, named_by, claimed_member c n h l.0 k w)
claimed_member c n (Claim v i j ∷ h) l k w e = grind (arith, common_steps, not_named, named_by, claimed_member c n h l.0 k w)
claimed_member c n (Return v i r ∷ h) l k w e = grind (arith, common_steps, not_named, named_by, claimed_member c n h l.0 k w)
claimed_member c n (Fault v i r ∷ h) l k w e = grind (arith, common_steps, not_named, named_by, claimed_member c n h l.0 k w)
claimed_member c n (Over v ∷ h) l k w e = claimed_member c n h l.0 k w e

module _ {J R : Type 0} where
  -- the job got at a number that is claimed or ended is the one that was posted there
  abbrev GotAs : Option J → Status → List (Event J R) → ℕ → Type 0
  GotAs root Absent h k = Unit {0}
  GotAs root Open h k = Unit {0}
  GotAs root _ h k = job_got h k ≡ job_at root h k

  got_keep : (root : Option J) (s : Status) (h g : List (Event J R)) (k : ℕ) → job_got g k ≡ job_got h k
      → job_at root g k ≡ job_at root h k → GotAs root s h k → GotAs root s g k
  got_keep root s h g k h1 h2 h3 = grind (arith, common_steps)

  got_post : (root : Option J) (w p i : ℕ) (j : J) (h : List (Event J R)) (k : ℕ) (b : Bool) → (k == i) ≡ b
      → GotAs root (status h k) h k → GotAs root (cond b Open (status h k)) (Post w p i j ∷ h) k
  got_post root w p i j h k b h1 h2 = grind (arith, common_steps, got_keep, at_other, apart)

  got_claim : (root : Option J) (w i : ℕ) (j : J) (h : List (Event J R)) (k : ℕ) (b : Bool) → (k == i) ≡ b → job_at root h i ≡ Some j
      → GotAs root (status h k) h k → GotAs root (cond b (Claimed w) (status h k)) (Claim w i j ∷ h) k
  got_claim root w i j h k b h1 h2 h3 = grind (arith, common_steps, at_same, eqb-true, got_keep, at_other, apart)

  got_end : (root : Option J) (w i : ℕ) (x : Status) (h g : List (Event J R)) (k : ℕ) (b : Bool) → (k == i) ≡ b → status h i ≡ Claimed w
      → (GotAs root (Claimed w) h k → GotAs root x g k) → job_got g k ≡ job_got h k → job_at root g k ≡ job_at root h k
      → GotAs root (status h k) h k → GotAs root (cond b x (status h k)) g k
  got_end root w i x h g k b h1 h2 h3 h4 h5 h6 = grind (arith, common_steps, eqb-true, got_keep)

  first_got : (root : Option J) (k : ℕ) (h : List (Event J R)) (b : Bool) → GotAs root (cond b Open Absent) h k
  first_got root k h b = grind (arith, common_steps)

  got_right : (c n : ℕ) (root : Option J) (h : List (Event J R)) → IsLegal c n h → IsMatched root h → (k : ℕ) → GotAs root (status h k) h k
  got_right c n root [] l m k = first_got root k [] (k == 0)
  got_right c n root (Post w p i j ∷ h) l m k = got_post root w p i j h k (k == i) refl (got_right c n root h l.0 m.0 k)
  got_right c n root (Claim w i j ∷ h) l m k = got_claim root w i j h k (k == i) refl m.1 (got_right c n root h l.0 m.0 k)
  got_right c n root (Return w i r ∷ h) l m k =
      got_end root w i Returned h (Return w i r ∷ h) k (k == i) refl l.2 (λ x. x) refl refl (got_right c n root h l.0 m.0 k)
  got_right c n root (Fault w i r ∷ h) l m k =
      got_end root w i Faulted h (Fault w i r ∷ h) k (k == i) refl l.2.0 (λ x. x) refl refl (got_right c n root h l.0 m.0 k)
  got_right c n root (Over w ∷ h) l m k = got_keep root (status h k) h (Over w ∷ h) k refl refl (got_right c n root h l.0 m.0 k)

  handed_by : (root : J) (s : Status) (h : List (Event J R)) (k : ℕ) → rank s ≡ 3 → GotAs (Some root) s h k
      → job_got h k ≡ job_posted root h k
  handed_by root s h k h1 h2 = grind (arith, common_steps)

ended_there : (s : Status) → rank s ≡ 3 → s ≢ Absent
ended_there s e x = let y = sym e ∙ ap rank x in absurd (omega arith)

shows_given : {R : Type 0} (s : Status) (o : Option (Ended R)) → GivenAs s o → s ≢ Open → ((w : ℕ) → s ≢ Claimed w) → Shows s o
shows_given s o h1 h2 h3 = grind (arith, common_steps)

none_given : {R : Type 0} (s : Status) (o : Option (Ended R)) → s ≡ Absent → GivenAs s o → o ≡ None
none_given s o e g = subst (λ z. GivenAs z o) e g

module _ {J R : Type 0} (root : J) (workers : ℕ) (passes : List (Pass J R)) (ws : List ℕ) (xs : List (Slot J R))
    (r : ShowsClosedHistory (Some root) workers passes ws xs) where
  -- the word of a number says what the number is
  face_at : (k : ℕ) → k < length xs → word_at ws k ≡ r.faces k
  face_at k low = ap word_of (r.state.shows k low) ∙ decoded (r.faces k)

  ended_at : (n k : ℕ) → n ≤ length xs → EndedBelow n ws → k < n → rank (status r.history k) ≡ 3
  ended_at n k h1 h2 h3 = grind (arith, common_steps, ended_rank, face_at)

  -- the row at a number that has ended
  pub lies_at : (n k : ℕ) → n ≤ length xs → EndedBelow n ws → k < n
      → (x : R) × (get_elem? xs k ≡ some (Row x)) × (row_given r.history k ≡ ended_as (shown (word_at ws k)) x)
  lies_at n k small e below =
      let low : k < length xs = omega (arith, below, small) in
      let p = r.placed k low (ended_at n k small e below) in
      (p.0, p.1, p.2 ∙ (ap (λ z. ended_as z p.0) (r.state.agrees k) ∙ ap (λ c. ended_as (shown c) p.0) (sym (face_at k low))))

  -- where all have ended there is a row for each
  pub all_lie : (n : ℕ) → n ≤ length xs → EndedBelow n ws → HasRows n xs
  all_lie n small e k below = let p = lies_at n k small e below in (p.0, p.1)

  absent_from : (n : ℕ) → n ≤ length xs → (n ≡ length xs) ⊎ (is_absent (word_at ws n) ≡ true) → (k : ℕ) → n ≤ k → r.faces k ≡ word.Absent
  absent_from n h1 h2 k h3 = grind (arith, common_steps, face_at, absent_is)

  module _ (n : ℕ) (small : n ≤ length xs) (e : EndedBelow n ws) (o : (n ≡ length xs) ⊎ (is_absent (word_at ws n) ≡ true)) where
    gone : (k : ℕ) → n ≤ k → status r.history k ≡ Absent
    gone k far = r.state.agrees k ∙ ap shown (absent_from n small o k far)

    over_now : IsOver r.history
    over_now = grind (arith, common_steps, ended_at, gone)

    -- memory for the rows is asked for last
    pub finished : Finished (length xs) workers passes
    finished = record { history = r.history; legal = r.state.legal; over = over_now; parts = r.parts }

    module _ (rows : List (Ended R)) (count : length rows ≡ n) (taken : TakesRows n ws xs rows) where
      given_now : (k : ℕ) → slice_get rows k ≡ row_given r.history k
      given_now k = dite (dec_lt k n)
          (λ below. let p = lies_at n k small e below in taken k p.0 below p.1 ∙ sym p.2)
          (λ far. let out : n ≤ k = omega (arith, far) in
          slice_get_past rows k (omega (arith, out, count))
          ∙ sym (none_given (status r.history k) (row_given r.history k) (gone k out)
          (ended_has_row (length xs) workers r.history r.state.legal k)))

      used_all : (w : ℕ) (p : Pass J R) → slice_get passes w ≡ Some p → p.full ≡ true → length rows ≡ length xs
      used_all w p h1 h2 = grind (arith, common_steps, face_at, absent_is)

      -- so the rows and the passes are settled by one history
      pub settled : Settled (length xs) workers root words_promises passes rows
      settled = record {
        history = r.history;
        legal = r.state.legal;
        over = over_now;
        parts = r.parts;
        numbers = λ k. (
          (λ a. dite (dec_lt k n) (λ below. absurd (ended_there (status r.history k) (ended_at n k small e below) a))
              (λ far. omega (arith, far, count))),
          (λ far. gone k (omega (arith, far, count))),
        );
        shown = λ k. let v = over_now k in subst (λ z. Shows (status r.history k) z) (sym (given_now k))
            (shows_given (status r.history k) (row_given r.history k)
            (ended_has_row (length xs) workers r.history r.state.legal k) v.0 v.1);
        in_place = λ _. record {
          given = given_now;
          handed = λ k x at. handed_by root (status r.history k) r.history k
              (ended_at n k small e (omega (arith, slice_get_within rows k x at, count)))
              (got_right (length xs) workers (Some root) r.history r.state.legal r.state.matched k);
        };
        all_used = λ _. used_all;
      }

  -- the first that has not ended is told
  pub unfinished : (n : ℕ) → n < length xs → EndedBelow n ws → is_absent (word_at ws n) ≡ false → has_ended (word_at ws n) ≡ false
      → Unfinished (length xs) workers n words_promises passes
  unfinished n h1 h2 h3 h4 = grind (arith, common_steps, face_at, ended_at)

-- the last element of a list that is the beginning of another
pub popped : {A : Type 0} (all old new : List A) (x : A) (n : ℕ) → old ≡ new ++ x ∷ [] → length new ≡ n
    → ((w : ℕ) → w < n + 1 → slice_get old w ≡ slice_get all w)
    → (slice_get all n ≡ Some x) × ((w : ℕ) → w < n → slice_get new w ≡ slice_get all w)
popped all old new x n h1 h2 h3 = grind (arith, common_steps, get_push_same, get_push_other)

at_front : {A : Type 0} (l m : List A) (n : ℕ) (a : A) → get_elem? l n ≡ some a → get_elem? (l ++ m) n ≡ some a
at_front [] m n a e = absurd (some-ne-none a (sym e))
at_front (x ∷ l) m zero a e = e
at_front (x ∷ l) m (suc n) a e = at_front l m n a e

at_middle : {A : Type 0} (l m : List A) (a : A) → get_elem? (l ++ a ∷ m) (length l) ≡ some a
at_middle [] m a = refl
at_middle (x ∷ l) m a = at_middle l m a

larger_left : (a b n : ℕ) (c : Bool) → ltb a b ≡ c → n ≤ a → n ≤ cond c b a
larger_left a b n c h1 h2 = grind (arith, common_steps, nat_tests)

larger_right : (a b n : ℕ) (c : Bool) → ltb a b ≡ c → n ≤ b → n ≤ cond c b a
larger_right a b n c h1 h2 = grind (arith, common_steps, nat_tests)

module _ {J R : Type 0} where
  -- the pass that takes in another tells what it told before, and what the other did
  still_tells : (v w : View J R) (u : ℕ) (m : List (Event J R)) → Tells v u m → Tells (merged v w) u m
  still_tells v w u m t = ⊎_elim (λ x. inl x) (λ x. inr (x.0, at_front v.joined ((w.worker, w.mine) ∷ w.joined) x.0 (u, m) x.1)) t

  now_tells : (v w : View J R) → Tells (merged v w) w.worker w.mine
  now_tells v w = inr (length v.joined, at_middle v.joined w.joined (w.worker, w.mine))

  -- one more pass is taken in
  pub took_in : (slots : ℕ) (passes : List (Pass J R)) (n : ℕ) (v w : View J R) (p : Pass J R) → slice_get passes n ≡ Some p
      → w.worker ≡ n → p.mine ≡ w.mine → (p.full ≡ true → slots ≤ w.front)
      → HasTaken slots passes (n + 1) v → HasTaken slots passes n (merged v w)
  took_in slots passes n v w p at num own full has u q above there = dite (ℕ_discrete u n)
      (λ same.
      let x : Some p ≡ Some q = sym at ∙ (ap (λ z. slice_get passes z) (sym same) ∙ there) in
      let is : p ≡ q = cc x in
      subst (λ (z : Pass J R). Tells (merged v w) u z.mine × (z.full ≡ true → slots ≤ larger v.front w.front)) is (
        subst (λ (z : ℕ × List (Event J R)). Tells (merged v w) z.0 z.1) (λ i. ((num ∙ sym same) i, sym own i)) (now_tells v w),
        λ f. larger_right v.front w.front slots (ltb v.front w.front) refl (full f),
      ))
      (λ off.
      let old = has u q (let y : u ≢ n = off in omega (arith, above, y)) there in
      (still_tells v w u q.mine old.0, λ f. larger_left v.front w.front slots (ltb v.front w.front) refl (old.1 f)))

  -- the last pass is the first that is taken in
  pub took_first : (slots : ℕ) (passes : List (Pass J R)) (n : ℕ) (v : View J R) (p : Pass J R) → length passes ≡ n + 1
      → slice_get passes n ≡ Some p → v.worker ≡ n → p.mine ≡ v.mine → (p.full ≡ true → slots ≤ v.front) → HasTaken slots passes n v
  took_first slots passes n v p h1 h2 h3 h4 h5 = grind (arith, common_steps, slice_get_within)

  ended_lies : (root : Option J) (h : List (Event J R)) (hs : Homes J R) (k : ℕ) (c : Word) → SlotHolds root h hs k c → rank (shown c) ≡ 3
      → (r : R) × (get_elem? hs k ≡ some (some (Row r))) × (row_given h k ≡ ended_as (shown c) r)
  ended_lies root h hs k word.Returned l e = l
  ended_lies root h hs k word.Faulted l e = l
  ended_lies root h hs k _ l e = absurd (omega arith)

  part_told : (root : Option J) (workers : ℕ) (h : List (Event J R)) (faces : ℕ → Word) (owner : ℕ → Option ℕ) (id : ℕ) (v : View J R)
      → Knows root workers h faces owner id v → (u : ℕ) (m : List (Event J R)) → Tells v u m → part u h ≡ m
  part_told root workers h faces owner id v h1 u m h2 = grind (arith, common_steps)

  not_held : (root : Option J) (workers : ℕ) (h : List (Event J R)) (faces : ℕ → Word) (owner : ℕ → Option ℕ) (id : ℕ) (v : View J R)
      → Knows root workers h faces owner id v → v.drawn ≡ 0 → (u : ℕ) (m : List (Event J R)) → Tells v u m → (q : ℕ)
      → faces q ≢ word.Drawn u
  not_held root workers h faces owner id v h1 h2 u m h3 q = grind (arith, common_steps)

  -- a closed row, by the pass that stayed
  pub gathers : (root : Option J) (workers id : ℕ) (v : View J R) (passes : List (Pass J R)) (ws : List ℕ) (xs : List (Slot J R))
      → v.live ≡ true → v.drawn ≡ 0 → length passes ≡ workers → HasTaken (length xs) passes 0 v
      → Final (Seen (ShowsHistory root workers) id v) ws xs → ShowsClosedHistory root workers passes ws xs
  gathers root workers id v passes ws xs lives none len has f =
      let s = f.0 in let r = f.1.0 in let k = r.each_seat id v f.1.1 lives in let size : length s.homes ≡ length xs = f.3 in record {
        history = r.history;
        faces = r.faces;
        state = subst (λ (z : ℕ × List ℕ). ShowsState root workers z.0 z.1 r.history r.faces) (λ i. (size i, f.2 i)) r.state;
        parts = λ w p at. part_told root workers r.history r.faces r.owner id v k w p.mine (has w p (omega arith) at).0;
        undrawn = λ q u e.
            let b = r.busy q u e in
            let low = claimed_member (length s.homes) workers r.history r.state.legal b.0 u b.1 in
            let p = get_there passes u (omega (arith, low, len)) in
            not_held root workers r.history r.faces r.owner id v k none u p.0.mine (has u p.0 (omega arith) p.1).0 q e;
        placed = λ q l e.
            let x = ended_lies root r.history s.homes q (r.faces q) (r.lies q (subst (λ z. q < z) (sym size) l))
            (sym (ap rank (r.state.agrees q)) ∙ e) in
            (x.0, f.4 q (Row x.0) x.1, x.2 ∙ ap (λ z. ended_as z x.0) (sym (r.state.agrees q)));
        used = λ w p at full q l. k.front q (let y = (has w p (omega arith) at).1 full in omega (arith, l, y));
      }

  -- one more row is taken out
  pub rows_more : (ws : List ℕ) (xs : List (Slot J R)) (rows : List (Ended R)) (n : ℕ) (x : Word) (row : R) (last : Ended R)
      → length rows ≡ n → word_at ws n ≡ x → get_elem? xs n ≡ some (Row row) → ended_as (shown x) row ≡ Some last
      → TakesRows n ws xs rows → TakesRows (n + 1) ws xs (rows ++ last ∷ [])
  rows_more ws xs rows n x row last h1 h2 h3 h4 h5 = grind (arith, get_push_same, get_push_other)
