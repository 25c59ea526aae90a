-- Numbers below the mark of those that are taken stay taken, and the mark goes up by what is found at it.
use Rattle.std.proofs.Common.{◌≡◌, ℕ, ◌<◌, ◌≤◌, ◌⊎◌, ⊎_elim, Bool, true, false, refl, ap, sym, ◌∙◌, subst, arith}
use Rattle.std.proofs.lemmas.Bool.Decides.{nat_tests}
use Rattle.std.specs.Prelude.{MatchBool}
use Rattle.lc_board.specs.{State.{Open, Claimed, status}, Growth.{GoesOn, rank}, WordPass.{IsListed, AreListed, AreTaken}, WordSteps.IsFair}
use Rattle.lc_board.specs.{WordSteps.{AddsEvent, ExtendsFairly, Finds, HasLooked, taken_after, last_look}, WordCode.{is_open, is_taken}}
use Rattle.lc_board.specs.declared.words.{coding.Word.Word, newest.Newest.Newest, view.View.View}
use Rattle.lc_board.specs.declared.event.Event.{Event, TheVariants.{Post, Claim, Over}}
use Rattle.lc_board.proofs.Growths.{longer, put_here, rank_from}
use Rattle.lc_board.specs.declared.words.coding.Word.TheVariants as word

-- which numbers are below the mark after a look
taken_tells : (i taken : ℕ) (x : Word) (z : ℕ) → z < taken_after i taken x → (z < taken) ⊎ ((z ≡ i) × (is_taken x ≡ true))
taken_tells i taken x z h = grind (arith, nat_tests)

module _ {J R : Type 0} where
  -- a number that is taken stays so
  pub stays_taken : (cap : ℕ) (v w : View J R) (k : ℕ) → GoesOn w.seen v.seen → IsFair cap w → 2 ≤ rank (status v.seen k)
      → 2 ≤ rank (status w.seen k)
  stays_taken cap v w k goes fair a = let g = rank_from cap w.workers w.seen v.seen fair.0 goes k in omega arith

  -- no number goes back over what a pass sees
  abbrev pub Keeps : View J R → View J R → Type 0
  Keeps v w = (k : ℕ) → rank (status v.seen k) ≤ rank (status w.seen k)

  -- over a look
  pub keeps_looked : (cap : ℕ) (v w : View J R) → ExtendsFairly cap v w → Keeps v w
  keeps_looked cap v w l = rank_from cap w.workers w.seen v.seen l.2.0 l.0

  -- over an event
  pub keeps_added : (cap : ℕ) (v w : View J R) (e : Event J R) → AddsEvent cap v e w → Keeps v w
  keeps_added cap v w e a =
      rank_from cap w.workers w.seen v.seen a.2.0 (subst (λ h. GoesOn h v.seen) (sym a.0.2) (longer a.0.0 v.seen e a.0.1))

  keeps_told : (cap : ℕ) (v w : View J R) (b : Bool) → MatchBool b (AddsEvent cap v (Over v.worker) w) (ExtendsFairly cap v w)
      → Keeps v w
  keeps_told cap v w true a = keeps_added cap v w (Over v.worker) a
  keeps_told cap v w false a = keeps_looked cap v w a

  -- over a look that may be the last
  pub keeps_missed : (cap i : ℕ) (x : Word) (v w : View J R) → HasLooked cap i x v w → Keeps v w
  keeps_missed cap i x v w m = keeps_told cap v w (last_look cap i v.low x) m.7

  -- numbers below the mark stay taken
  marked_on : (taken : ℕ) (v w : View J R) → Keeps v w → AreTaken taken v.seen → AreTaken taken w.seen
  marked_on taken v w keeps marked k low = let g = keeps k in let a = marked k low in omega arith

  -- listed numbers stay posted
  pub listed_on : (newest : Newest) (v w : View J R) → Keeps v w → AreListed newest v.seen → AreListed newest w.seen
  listed_on newest v w keeps listed k has = let g = keeps k in let a = listed k has in omega arith

  -- a number that is posted may be listed too
  pub listed_more : (cap i wk p : ℕ) (j : J) (newest newest2 : Newest) (v w : View J R) → AddsEvent cap v (Post wk p i j) w
      → ((k : ℕ) → IsListed newest2 k → (k ≡ i) ⊎ IsListed newest k) → AreListed newest v.seen → AreListed newest2 w.seen
  listed_more cap i wk p j newest newest2 v w a more listed k has = ⊎_elim
      (λ (e : k ≡ i). subst (λ z. 1 ≤ rank (status w.seen z)) (sym e)
      (let is = ap rank (ap (λ h. status h i) a.0.2 ∙ put_here (status a.0.0) i Open) in omega arith))
      (λ (x : IsListed newest k). listed_on newest v w (keeps_added cap v w (Post wk p i j) a) listed k x) (more k has)

  pub marked_looked : (cap taken : ℕ) (v w : View J R) → ExtendsFairly cap v w → AreTaken taken v.seen → AreTaken taken w.seen
  marked_looked cap taken v w l = marked_on taken v w (keeps_looked cap v w l)

  pub marked_added : (cap taken : ℕ) (v w : View J R) (e : Event J R) → AddsEvent cap v e w → AreTaken taken v.seen → AreTaken taken w.seen
  marked_added cap taken v w e a = marked_on taken v w (keeps_added cap v w e a)

  -- and the number at the mark may be taken too
  marked_next : (i taken taken2 : ℕ) (x : Word) (w : View J R) → taken2 ≡ taken_after i taken x → AreTaken taken w.seen
      → (is_taken x ≡ true → 2 ≤ rank (status w.seen i)) → AreTaken taken2 w.seen
  marked_next i taken taken2 x w mark marked here k low = ⊎_elim (λ (l : k < taken). marked k l)
      (λ (e : (k ≡ i) × (is_taken x ≡ true)). subst (λ z. 2 ≤ rank (status w.seen z)) (sym e.0) (here e.1))
      (taken_tells i taken x k (subst (λ n. k < n) mark low))

  found_taken : (i : ℕ) (x : Word) (w : View J R) → Finds i x w → is_taken x ≡ true → 2 ≤ rank (status w.seen i)
  found_taken i word.Returned w f is = let e = ap rank f in omega arith
  found_taken i word.Faulted w f is = let e = ap rank f in omega arith
  found_taken i (word.Claimed u) w f is = let e = ap rank f.0 in omega arith
  found_taken i _ w f is = absurd cc

  -- over a look at the mark that claims nothing, by which it goes up
  pub marked_missed : (cap i : ℕ) (x : Word) (taken taken2 : ℕ) (v w : View J R) → HasLooked cap i x v w → taken2 ≡ taken_after i taken x
      → AreTaken taken v.seen → AreTaken taken2 w.seen
  marked_missed cap i x taken taken2 v w m mark marked =
      marked_next i taken taken2 x w mark (marked_on taken v w (keeps_missed cap i x v w m) marked) (found_taken i x w m.6)

  -- a number that is claimed is taken
  pub claimed_taken : (cap i wk : ℕ) (j : J) (v w : View J R) → AddsEvent cap v (Claim wk i j) w → 2 ≤ rank (status w.seen i)
  claimed_taken cap i wk j v w a =
      let e = ap rank (ap (λ h. status h i) a.0.2 ∙ put_here (status a.0.0) i (Claimed wk)) in omega arith

  posted_taken : (i : ℕ) (x : Word) (w : View J R) → Finds i x w → is_open x ≡ false → 1 ≤ rank (status w.seen i)
      → 2 ≤ rank (status w.seen i)
  posted_taken i word.Absent w f shut some = let e = ap rank (f i (omega arith)) in absurd (omega arith)
  posted_taken i word.Open w f shut some = absurd cc
  posted_taken i (word.Drawn u) w f shut some = let e = ap rank f.0 in absurd (omega arith)
  posted_taken i word.Returned w f shut some = found_taken i word.Returned w f refl
  posted_taken i word.Faulted w f shut some = found_taken i word.Faulted w f refl
  posted_taken i (word.Claimed u) w f shut some = found_taken i (word.Claimed u) w f refl

  -- and so is one that was posted before, and is found not open
  pub missed_taken : (cap i : ℕ) (x : Word) (v w : View J R) → HasLooked cap i x v w → is_open x ≡ false → 1 ≤ rank (status v.seen i)
      → 2 ≤ rank (status w.seen i)
  missed_taken cap i x v w m shut some = let g = keeps_missed cap i x v w m i in posted_taken i x w m.6 shut (omega arith)

  -- over a claim at the mark, by which it goes up
  pub marked_claimed : (cap i wk : ℕ) (x : Word) (taken taken2 : ℕ) (j : J) (v w : View J R) → AddsEvent cap v (Claim wk i j) w
      → taken2 ≡ taken_after i taken x → AreTaken taken v.seen → AreTaken taken2 w.seen
  marked_claimed cap i wk x taken taken2 j v w a mark marked =
      marked_next i taken taken2 x w mark (marked_added cap taken v w (Claim wk i j) a marked)
      (λ _. claimed_taken cap i wk j v w a)
