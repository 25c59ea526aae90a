-- A claim that goes up over the words.
use Rattle.std.proofs.lemmas.Grind.{common_steps}
use Rattle.std.proofs.Common.{◌≡◌, ◌≢◌, ℕ, ◌+◌, ◌<◌, ◌≤◌, ◌⊎◌, Bool, true, false, ◌||◌, ◌∷◌, refl, ap, sym, ◌∙◌, subst, inl, inr, ⊎_elim}
use Rattle.std.proofs.{Common.{Option, Some, None, arith}, lemmas.Bool.Decides.nat_tests}
use mathlib.Core.Logic.{dite}
use native.Mathlib.Decide.{ℕ_discrete}
use Rattle.std.specs.Prelude.{MatchBool, IfSome, Result, Ok, Err, cond}
use Rattle.lc_board.specs.{State.{Status, Absent, Open, status}, LegalHistory.IsLegal, Holding.holding, Growth.{GoesOn, rank}}
use Rattle.lc_board.specs.WordSteps.{IsFair, AddsEvent, ExtendsFairly, Extends, OthersHeld, Waits, SomeHolds, Finds, HasLooked, low_after}
use Rattle.lc_board.specs.{WordSteps.{is_last_word, last_look, larger}, WordCode.{is_absent, is_open, has_ended, is_busy}}
use Rattle.lc_board.specs.{WordPass.AreTaken, WordsBoard.{AnswersWordsClaim, IsSamePass, TriesClaim, known}, WordBounds.MeetsOpen}
use Rattle.lc_board.specs.declared.words.{pass.WordsPass.WordsPass, Words.Words, coding.Word.Word, view.View.View}
use Rattle.lc_board.specs.declared.{event.Event.{Event, TheVariants.{Post, Claim, Over}}, answers.Claim.Claim as Answer}
use Rattle.lc_board.proofs.{Growths.{rank_from, whole, goes_trans, rank_zero, legal_before}, WordCodes.{absent_is, open_is}}
use Rattle.lc_board.proofs.WordMarks.{stays_taken}
use Rattle.lc_board.specs.declared.answers.Claim.TheVariants as answer
use Rattle.lc_board.specs.declared.words.coding.Word.TheVariants as word

-- a look at another number than the low mark, or at one after which others may be used, is not the last
last_no : (cap i low : ℕ) (x : Word) → low ≢ i → last_look cap i low x ≡ false
last_no cap i low x h = grind (arith, nat_tests)

last_not : (cap i low : ℕ) (x : Word) → is_last_word cap i x ≡ false → last_look cap i low x ≡ false
last_not cap i low x h = grind (arith, nat_tests)

last_yes : (cap i low : ℕ) (x : Word) → low ≡ i → is_last_word cap i x ≡ true → last_look cap i low x ≡ true
last_yes cap i low x e h = grind (arith, nat_tests)

low_open : (cap i low : ℕ) → low_after cap i low word.Open ≡ low
low_open cap i low = grind (arith, nat_tests)

low_still : (cap i low : ℕ) (x : Word) → has_ended x ≡ false → low_after cap i low x ≡ low
low_still cap i low x h = grind (arith, nat_tests)

low_above : (cap i low : ℕ) (x : Word) → low < i → low_after cap i low x ≡ low
low_above cap i low x h = grind (arith, nat_tests)

low_next : (cap i low : ℕ) (x : Word) → low ≡ i → has_ended x ≡ true → i + 1 < cap → low_after cap i low x ≡ i + 1
low_next cap i low x e ends more = grind (arith, nat_tests)

absent_last : (cap i : ℕ) (x : Word) → is_last_word cap i x ≡ false → is_absent x ≡ false
absent_last cap i x h = grind (arith, nat_tests)

ended_last : (cap i : ℕ) (x : Word) → is_last_word cap i x ≡ false → has_ended x ≡ true → i < cap → i + 1 < cap
ended_last cap i x h e l = grind (arith, nat_tests)

busy_last : (cap i : ℕ) (x : Word) → is_busy x ≡ true → is_last_word cap i x ≡ false
busy_last cap i x h1 = grind (arith, common_steps)

-- a number that is neither absent, open nor busy has ended
ended_else : (x : Word) → is_absent x ≡ false → is_open x ≡ false → is_busy x ≡ false → has_ended x ≡ true
ended_else x h1 h2 h3 = grind (arith, common_steps)

busy_goes_on : (x : Word) → is_busy x ≡ true → has_ended x ≡ false
busy_goes_on x h1 = grind (arith, common_steps)

module _ {J R : Type 0} where
  -- seeing more before an event adds it all the same
  pub sees_adds : (cap : ℕ) (v u w : View J R) (e : Event J R) → Extends v u → AddsEvent cap u e w → AddsEvent cap v e w
  sees_adds cap v u w e s a = ((a.0.0, goes_trans a.0.0 u.seen v.seen a.0.1 s.0, a.0.2), a.1 ∙ ap (λ z. e ∷ z) s.1, a.2)

  -- seeing goes on
  pub sees_trans : (v u w : View J R) → Extends v u → Extends u w → Extends v w
  sees_trans v u w a b = (goes_trans w.seen u.seen v.seen b.0 a.0, b.1 ∙ a.1)

  -- looking goes on
  pub looks_trans : (cap : ℕ) (v u w : View J R) → ExtendsFairly cap v u → ExtendsFairly cap u w → ExtendsFairly cap v w
  looks_trans cap v u w a b = let sees = sees_trans v u w (a.0, a.1) (b.0, b.1) in (sees.0, sees.1, b.2)

  -- a pass stays the same over two steps
  pub same_trans : (a b c : WordsPass J R) → IsSamePass a b → IsSamePass b c → IsSamePass a c
  same_trans a b c x y = (y.0 ∙ x.0, y.1 ∙ x.1, y.2 ∙ x.2, y.3 ∙ x.3, y.4 ∙ x.4)

  -- what a claim that has met somebody busy knows before it visits i, where v is the view at its start
  pub record HasMet (cap i : ℕ) (v w : View J R) : Type 0 where
    pub fair : IsFair cap w
    pub far : (k : ℕ) → cap ≤ k → status v.seen k ≡ Absent
    pub past : (k : ℕ) → k < i → (status v.seen k ≡ Absent) ⊎ (2 ≤ rank (status w.seen k))
    pub others : OthersHeld v w
    pub above : w.low < i

  -- what a claim knows before it visits i: until it meets somebody busy, it goes up with the low mark
  abbrev pub IsScan : ℕ → ℕ → Bool → View J R → View J R → Type 0
  IsScan cap i busy v w = Extends v w × MatchBool busy (HasMet cap i v w) (w.low ≡ i)

  looks_of : (cap i : ℕ) (x : Word) (v w : View J R) → HasLooked cap i x v w → last_look cap i v.low x ≡ false → ExtendsFairly cap v w
  looks_of cap i x v w m is = subst (λ b. MatchBool b (AddsEvent cap v (Over v.worker) w) (ExtendsFairly cap v w)) is m.7

  over_of : (cap i : ℕ) (x : Word) (v w : View J R) → HasLooked cap i x v w → last_look cap i v.low x ≡ true
      → AddsEvent cap v (Over v.worker) w
  over_of cap i x v w m is = subst (λ b. MatchBool b (AddsEvent cap v (Over v.worker) w) (ExtendsFairly cap v w)) is m.7

  -- a look that finds the number open
  pub found_open : (cap i : ℕ) (x : Word) (v w : View J R) → HasLooked cap i x v w → is_open x ≡ true → MeetsOpen cap v i
  found_open cap i x v w h1 h2 = grind (arith, common_steps, open_is, looks_of, last_not)

  -- the numbers that are passed stay passed
  passed : (cap : ℕ) (v u w : View J R) (k : ℕ) → ExtendsFairly cap u w → (status v.seen k ≡ Absent) ⊎ (2 ≤ rank (status u.seen k))
      → (status v.seen k ≡ Absent) ⊎ (2 ≤ rank (status w.seen k))
  passed cap v u w k l p = ⊎_elim (λ a. inl a) (λ (a : 2 ≤ rank (status u.seen k)). inr (stays_taken cap u w k l.0 l.2 a)) p

  was_absent : (cap n : ℕ) (v w : View J R) (k : ℕ) → IsLegal cap n w.seen → GoesOn w.seen v.seen → status w.seen k ≡ Absent
      → status v.seen k ≡ Absent
  was_absent cap n v w k l s e = let g = rank_from cap n w.seen v.seen l s k in let x = ap rank e in rank_zero (status v.seen k)
      (omega arith)

  others_on : (cap : ℕ) (v u w : View J R) → OthersHeld v u → GoesOn w.seen u.seen → w.worker ≡ u.worker → OthersHeld v w
  others_on cap v u w o s e = (o.0, o.1, o.2, o.3, goes_trans w.seen u.seen o.0 s o.4, (λ x. o.5 (x ∙ e)), o.6)

  -- what was met stays so over a look at the next number
  met_kept : (cap i : ℕ) (x : Word) (v u w : View J R) → HasMet cap i v u → HasLooked cap i x u w → ExtendsFairly cap u w → HasMet cap i v w
  met_kept cap i x v u w met m l = record {
    fair = l.2;
    far = met.far;
    past = λ k a. passed cap v u w k l (met.past k a);
    others = others_on cap v u w met.others l.0 m.0.3;
    above = let a = met.above in let low = m.3 ∙ low_above cap i u.low x a in omega arith;
  }

  -- a look at a number above the low mark is not the last
  above_looks : (cap i : ℕ) (x : Word) (v u w : View J R) → HasMet cap i v u → HasLooked cap i x u w → ExtendsFairly cap u w
  above_looks cap i x v u w met m = looks_of cap i x u w m (last_no cap i u.low x (λ e. let a = met.above in absurd (omega arith)))

  -- what has been visited answers Later where no number after it had been seen posted
  waits : (cap i : ℕ) (v w : View J R) → Extends v w → HasMet cap i v w → ((k : ℕ) → i ≤ k → status v.seen k ≡ Absent) → Waits cap v w
  waits cap i v w h1 h2 h3 = grind (arith, common_steps)

  -- a number that was found neither absent nor open is drawn, claimed or ended
  found_passed : (i : ℕ) (x : Word) (w : View J R) → Finds i x w → is_absent x ≡ false → is_open x ≡ false
      → (status w.seen i ≡ Absent) ⊎ (2 ≤ rank (status w.seen i))
  found_passed i x w h1 h2 h3 = grind (arith, common_steps)

  found_busy : (i : ℕ) (x : Word) (w : View J R) → Finds i x w → is_busy x ≡ true → SomeHolds w
  found_busy i x w h1 h2 = grind (arith, common_steps)

  -- who holds a claim is another, for a pass that has claimed nothing
  others_held : (v w : View J R) → Extends v w → holding v.mine ≡ None → SomeHolds w → OthersHeld v w
  others_held v w sees free o = (w.seen, o.0, o.1, sees.0, whole w.seen, o.3 (ap holding sees.1 ∙ free), o.2)

  -- a number that was so found had not been seen posted, or will never be open again
  found_before : (cap i : ℕ) (x : Word) (v w : View J R) → Extends v w → IsFair cap w → Finds i x w → is_absent x ≡ false
      → is_open x ≡ false
      → (status v.seen i ≡ Absent) ⊎ (2 ≤ rank (status w.seen i))
  found_before cap i x v w sees fair m some_word not_open =
      ⊎_elim (λ (e : status w.seen i ≡ Absent). inl (was_absent cap w.workers v w i fair.0 sees.0 e))
      (λ (e : 2 ≤ rank (status w.seen i)). inr e) (found_passed i x w m some_word not_open)

  -- the last look at the low mark finds the board over
  low_over : (cap i : ℕ) (x : Word) (v u w : View J R) → u.worker ≡ v.worker → Extends v u → HasLooked cap i x u w → u.low ≡ i
      → is_last_word cap i x ≡ true → AddsEvent cap v (Over v.worker) w
  low_over cap i x v u w who s m low last = subst (λ z. AddsEvent cap v (Over z) w) who
      (sees_adds cap v u w (Over u.worker) s (over_of cap i x u w m (last_yes cap i u.low x low last)))

  -- another look moves the low mark
  low_on : (cap i : ℕ) (x : Word) (v u w : View J R) → Extends v u → HasLooked cap i x u w → is_last_word cap i x ≡ false
      → is_open x ≡ false → is_busy x ≡ false → i < cap → u.low ≡ i → Extends v w × (w.low ≡ i + 1)
  low_on cap i x v u w s m more not_open still near low =
      let l = looks_of cap i x u w m (last_not cap i u.low x more) in let ends = ended_else x (absent_last cap i x more) not_open still in
      (sees_trans v u w s (l.0, l.1), m.3 ∙ low_next cap i u.low x low ends (ended_last cap i x more ends near))

  -- a busy number at the low mark is the first that is met
  met_first : (cap i : ℕ) (x : Word) (v u w : View J R) → Extends v u → HasLooked cap i x u w → u.low ≡ i → holding v.mine ≡ None
      → is_busy x ≡ true → is_absent x ≡ false → is_open x ≡ false → Extends v w × HasMet cap (i + 1) v w
  met_first cap i x v u w s m low free busy some_word not_open =
      let l = looks_of cap i x u w m (last_not cap i u.low x (busy_last cap i x busy)) in
      let sees = sees_trans v u w s (l.0, l.1) in
      let mark : w.low ≡ i = m.3 ∙ (low_still cap i u.low x (busy_goes_on x busy) ∙ low) in (
        sees,
        record {
          fair = l.2;
          far = λ k f. was_absent cap w.workers v w k l.2.0 sees.0 (m.5 k f);
          past = λ k a. dite (ℕ_discrete k i)
              (λ is. subst (λ z. (status v.seen z ≡ Absent) ⊎ (2 ≤ rank (status w.seen z))) (sym is)
              (found_before cap i x v w sees l.2 m.6 some_word not_open))
              (λ ne. inr (let e = m.4 k (omega arith) in omega arith));
          others = others_held v w sees free (found_busy i x w m.6 busy);
          above = omega arith;
        },
      )

  -- a number that is not open is one more that is passed
  met_next : (cap i : ℕ) (x : Word) (v u w : View J R) → Extends v u → HasMet cap i v u → HasLooked cap i x u w
      → is_absent x ≡ false → is_open x ≡ false → Extends v w × HasMet cap (i + 1) v w
  met_next cap i x v u w s met m some_word not_open =
      let l = above_looks cap i x v u w met m in let sees = sees_trans v u w s (l.0, l.1) in let kept = met_kept cap i x v u w met m l in (
        sees,
        record {
          fair = kept.fair;
          far = kept.far;
          past = λ k a. dite (ℕ_discrete k i)
              (λ is. subst (λ z. (status v.seen z ≡ Absent) ⊎ (2 ≤ rank (status w.seen z))) (sym is)
              (found_before cap i x v w sees l.2 m.6 some_word not_open))
              (λ ne. kept.past k (omega arith));
          others = kept.others;
          above = let a = kept.above in omega arith;
        },
      )

  scan_to : (cap i next taken : ℕ) (busy : Bool) (v w : View J R) → Extends v w × MatchBool busy (HasMet cap i v w) (w.low ≡ i)
      → AreTaken taken w.seen → next ≡ cond busy (larger i taken) i → IsScan cap next busy v w
  scan_to cap i next taken busy v w h1 h2 h3 = grind (arith, common_steps, nat_tests)

  -- a visit that claims nothing, of a number that is not the last
  scan_on : (cap i : ℕ) (x : Word) (busy meets : Bool) (v u w : View J R) → is_busy x ≡ meets → IsScan cap i busy v u
      → HasLooked cap i x u w
      → (busy ≡ false → is_last_word cap i x ≡ false) → i < cap → holding v.mine ≡ None → is_absent x ≡ false → is_open x ≡ false
      → IsScan cap (i + 1) (busy || meets) v w
  scan_on cap i x true meets v u w is s m more near free some_word not_open = met_next cap i x v u w s.0 s.1 m some_word not_open
  scan_on cap i x false true v u w is s m more near free some_word not_open =
      met_first cap i x v u w s.0 m s.1 free is some_word not_open
  scan_on cap i x false false v u w is s m more near free some_word not_open =
      low_on cap i x v u w s.0 m (more refl) not_open is near s.1

  -- the next number
  pub scan_next : (cap i next taken : ℕ) (x : Word) (busy busy' : Bool) (v u w : View J R) → IsScan cap i busy v u → HasLooked cap i x u w
      → (busy ≡ false → is_last_word cap i x ≡ false) → i < cap → holding v.mine ≡ None → is_absent x ≡ false → is_open x ≡ false
      → busy' ≡ (busy || is_busy x) → AreTaken taken w.seen → next ≡ cond busy' (larger (i + 1) taken) (i + 1) → IsScan cap next busy' v w
  scan_next cap i next taken x busy busy' v u w s m more near free some_word not_open both marked is =
      scan_to cap (i + 1) next taken busy' v w
      (subst (λ b. IsScan cap (i + 1) b v w) (sym both)
      (scan_on cap i x busy (is_busy x) v u w refl s m more near free some_word not_open)) marked is

  -- a claim that has met nobody finds the board over at the last word
  pub scan_over : (cap i : ℕ) (x : Word) (busy : Bool) (v u w : View J R) → u.worker ≡ v.worker → busy ≡ false → IsScan cap i busy v u
      → HasLooked cap i x u w → is_last_word cap i x ≡ true → AddsEvent cap v (Over v.worker) w
  scan_over cap i x true v u w who is s m last = absurd cc
  scan_over cap i x false v u w who is s m last = low_over cap i x v u w who s.0 m s.1 last

  -- an absent word ends one that has met somebody
  pub later_absent : (cap i : ℕ) (x : Word) (busy : Bool) (v u w : View J R) → IsScan cap i busy v u → HasLooked cap i x u w
      → (busy ≡ false → is_last_word cap i x ≡ false) → is_absent x ≡ true → Waits cap v w
  later_absent cap i x false v u w s m more is = let some_word = absent_last cap i x (more refl) in absurd cc
  later_absent cap i x true v u w s m more is =
      let l = above_looks cap i x v u w s.1 m in let sees = sees_trans v u w s.0 (l.0, l.1) in
      let here = subst (λ z. Finds i z w) (absent_is x is) m.6 in
      waits cap i v w sees (met_kept cap i x v u w s.1 m l) (λ k far. was_absent cap w.workers v w k l.2.0 sees.0 (here k far))

  -- an answer stays one where more had been seen before
  pub sees_answers : (cap : ℕ) (v u w : View J R) (h : Option ℕ) (a : Answer J) → u.worker ≡ v.worker → Extends v u
      → AnswersWordsClaim cap u w h a → AnswersWordsClaim cap v w h a
  sees_answers cap v u w h (answer.Got i j) who s x =
      (x.0, subst (λ z. AddsEvent cap v (Claim z i j) w) who (sees_adds cap v u w (Claim u.worker i j) s x.1))
  sees_answers cap v u w h answer.Later who s x = let l = x.1.0 in let o = x.1.2 in let sees = sees_trans v u w s (l.0, l.1) in (
    x.0,
    (
      (sees.0, sees.1, l.2),
      (λ k there. x.1.1 k (λ e. there (was_absent cap w.workers v u k (legal_before cap w.workers w.seen u.seen l.2.0 l.0) s.0 e))),
      (o.0, o.1, o.2, goes_trans o.0 u.seen v.seen o.3 s.0, o.4, o.5, o.6),
    ),
  )
  sees_answers cap v u w h answer.Over who s x =
      (x.0, subst (λ z. AddsEvent cap v (Over z) w) who (sees_adds cap v u w (Over u.worker) s x.1))
  sees_answers cap v u w h answer.Memory who s x = x

  post_to : (cap i worker worker' : ℕ) (o : Option ℕ) (job job' : J) (v u w : View J R) → worker' ≡ worker → job' ≡ job → Extends v u
      → IfSome o (λ p. AddsEvent cap u (Post worker' p i job') w) → IfSome o (λ p. AddsEvent cap v (Post worker p i job) w)
  post_to cap i worker worker' None job job' v u w a b s x = x
  post_to cap i worker worker' (Some p) job job' v u w a b s x =
      subst (λ (z : ℕ × J). AddsEvent cap v (Post z.0 p i z.1) w) (λ k. (a k, b k)) (sees_adds cap v u w (Post worker' p i job') s x)

  -- a post goes through the looks before it
  pub post_through : (cap i worker worker' : ℕ) (o o' : Option ℕ) (job job' : J) (v u w : View J R) → o' ≡ o → worker' ≡ worker
      → job' ≡ job → Extends v u → IfSome o' (λ p. AddsEvent cap u (Post worker' p i job') w)
      → IfSome o (λ p. AddsEvent cap v (Post worker p i job) w)
  post_through cap i worker worker' o o' job job' v u w e a b s x =
      post_to cap i worker worker' o job job' v u w a b s (subst (λ z. IfSome z (λ p. AddsEvent cap u (Post worker' p i job') w)) e x)

  -- a look, after one that found the number open
  looked_twice : (cap i : ℕ) (x : Word) (v u w : View J R) → HasLooked cap i word.Open v u → HasLooked cap i x u w → HasLooked cap i x v w
  looked_twice cap i x v u w m n = let l = looks_of cap i word.Open v u m (last_not cap i v.low word.Open refl) in let low : u.low
      ≡ v.low = m.3 ∙ low_open cap i v.low in (
        (n.0.0 ∙ m.0.0, n.0.1 ∙ m.0.1, n.0.2 ∙ m.0.2, n.0.3 ∙ m.0.3, n.0.4 ∙ m.0.4, n.0.5 ∙ m.0.5),
        n.1 ∙ m.1,
        n.2 ∙ m.2,
        n.3 ∙ ap (λ z. low_after cap i z x) low,
        n.4,
        n.5,
        n.6,
        again (last_look cap i u.low x) (last_look cap i v.low x) (ap (λ z. last_look cap i z x) low) (l.0, l.1) m.0.3 n.7,
      )
    where
      again : (a b : Bool) → a ≡ b → Extends v u → u.worker ≡ v.worker
          → MatchBool a (AddsEvent cap u (Over u.worker) w) (ExtendsFairly cap u w)
          → MatchBool b (AddsEvent cap v (Over v.worker) w) (ExtendsFairly cap v w)
      again true true e s who x = subst (λ z. AddsEvent cap v (Over z) w) who (sees_adds cap v u w (Over u.worker) s x)
      again true false e s who x = absurd cc
      again false true e s who x = absurd cc
      again false false e s who x = let t = sees_trans v u w s (x.0, x.1) in (t.0, t.1, x.2)

  -- a look that finds an open number goes on to the exchange
  pub visit_then : (b : Words J R) (i : ℕ) (c : Word) (old mid new : WordsPass J R) (x : Result J Word)
      → HasLooked b.capacity i c (known old) (known mid) → is_open c ≡ true → TriesClaim b i mid x new → TriesClaim b i old x new
  visit_then b i c old mid new x m is a = go x a
    where
      seen : HasLooked b.capacity i word.Open (known old) (known mid)
      seen = subst (λ z. HasLooked b.capacity i z (known old) (known mid)) (open_is c is) m

      go : (x : Result J Word) → TriesClaim b i mid x new → TriesClaim b i old x new
      go (Ok j) a = let l = looks_of b.capacity i word.Open (known old) (known mid) seen
          (last_not b.capacity i (known old).low word.Open refl) in (
            a.0,
            subst (λ z. AddsEvent b.capacity (known old) (Claim z i j) (known new)) m.0.3
                (sees_adds b.capacity (known old) (known mid) (known new) (Claim (known mid).worker i j) (l.0, l.1) a.1),
          )
      go (Err z) a = (a.0, a.1, looked_twice b.capacity i z (known old) (known mid) (known new) seen a.2)

  -- a number that was drawn and then opened
  pub try_posted : (cap slots i wk : ℕ) (o : Option ℕ) (job : J) (v u' u w : View J R) → slots ≡ cap → u ≡ u' → ExtendsFairly slots v u'
      → u.worker ≡ wk → holding v.mine ≡ o → (p : ℕ) (j : J) → holding u.mine ≡ Some p → j ≡ job
      → AddsEvent slots u (Post u.worker p i j) w → IfSome o (λ q. AddsEvent cap v (Post wk q i job) w)
  try_posted cap slots i wk o job v u' u w size me l' who held p j claim same a =
      let l : ExtendsFairly slots v u = subst (λ z. ExtendsFairly slots v z) (sym me) l' in
      let is : o ≡ Some p = sym held ∙ (ap holding (sym l.1) ∙ claim) in
      let all : AddsEvent slots v (Post u.worker p i j) w = sees_adds slots v u w (Post u.worker p i j) (l.0, l.1) a in
      subst (λ z. IfSome z (λ q. AddsEvent cap v (Post wk q i job) w)) (sym is)
      (subst (λ c. AddsEvent c v (Post wk p i job) w) size
      (subst (λ (z : ℕ × J). AddsEvent slots v (Post z.0 p i z.1) w) (λ k. (who k, same k)) all))
