-- What is stored in a pass of a board of words stays tied to what it knows and holds.
use Rattle.std.proofs.Common.{◌≡◌, ℕ, ◌+◌, ◌<◌, ◌≤◌, true, false, cond, List, [], ◌∷◌, map, refl, ap, sym, ◌∙◌, subst, Option, Some, None}
use Rattle.std.proofs.Common.{arith}
use mathlib.Core.Path.{Path}
use Rattle.std.specs.Prelude.{IsSome}
use Rattle.atomic_table.specs.Table.{Step, rest}
use Rattle.lc_board.specs.{Holding.{holding, posted}, WordCode.{word_of, is_absent, is_open}, WordHistory.Seated}
use Rattle.lc_board.specs.declared.words.{coding.Word.Word, view.{Slot.{Slot, TheVariants.{Empty, Job, Row}}, View.View}}
use Rattle.lc_board.specs.{declared.event.Event.Event, WordSteps.{Same, TakesStep, HasLooked, Leaves, looked, TakesJob, claimed, TriesDraw}}
use Rattle.lc_board.specs.{WordSteps.{OpensDrawn, front_moved}, WordPass.{IsTied, kind, tag, tags_as, carried_as}}
use Rattle.lc_board.proofs.WordCodes.{match_true, match_false}

-- a claim that is there has a number
pub holds_some : (o : Option ℕ) → IsSome o → (i : ℕ) × (o ≡ Some i)
holds_some None h = absurd cc
holds_some (Some i) h = (i, refl)

module _ {J R : Type 0} where
  -- what an exchange told, by the word that it found
  pub did_claim : (st : Step (Slot J R)) (m m' : Seated J R) (r : ℕ) (x : Word) → x ≡ word_of r → is_open x ≡ true → claimed st m r m'
      → TakesJob st m m'
  did_claim st m m' r x found e did =
      match_true (is_open (word_of r)) (TakesJob st m m') (looked st m r m') (ap is_open (sym found) ∙ e) did

  -- an exchange at a word that is not open claims nothing
  pub not_claimed : (st : Step (Slot J R)) (m m' : Seated J R) (r : ℕ) (x : Word) → x ≡ word_of r → is_open x ≡ false
      → claimed st m r m' → (m'.1 ≡ m.1) × HasLooked st.slots st.word x m.0 m'.0 × TakesStep st.word m.0 m'.0
  not_claimed st m m' r x found e did = let saw = match_false (is_open (word_of r)) (TakesJob st m m') (looked st m r m')
      (ap is_open (sym found) ∙ e) did in
      (saw.0, subst (λ z. HasLooked st.slots st.word z m.0 m'.0) (sym found) saw.1, saw.2)

  is_empty : (x : Slot J R) → kind x ≡ 0 → Path (Slot J R) x Empty
  is_empty Empty e = refl
  is_empty _ e = absurd (omega arith)

  -- what a pass carries, from the tags of it
  pub carried_is : (c : List (ℕ × Slot J R)) (o : Option ℕ) → map tag c ≡ tags_as o → Path (List (ℕ × Slot J R)) c (carried_as o)
  carried_is [] None e = refl
  carried_is [] (Some i) e = absurd cc
  carried_is (x ∷ xs) None e = absurd cc
  carried_is (x ∷ y ∷ xs) (Some i) e = absurd cc
  carried_is (x ∷ []) (Some i) e = let h : (x.0, kind x.1) ≡ (i, 0) = cc in let a : x.0 ≡ i = ap (λ (p : ℕ × ℕ). p.0) h in
      let b = is_empty x.1 (ap (λ (p : ℕ × ℕ). p.1) h) in (λ k. (a k, b k) ∷ [])

  -- the job on top is the one that was laid there
  pub first_job : (i k : ℕ) (j job : J) (xs ys : List (ℕ × Slot J R)) → (i, Job j) ∷ xs ≡ (k, Job job) ∷ ys → j ≡ job
  first_job i k j job xs ys e = let h : (i, Job j) ≡ (k, Job job) = cc e in let a : Path (Slot J R) (Job j) (Job job) = ap
      (λ (p : ℕ × Slot J R). p.1) h in cc a

  -- a claim, and then the empty slot
  pub tied_claimed : (slots i r worker : ℕ) (st : Step (Slot J R)) (posts front low : ℕ) (m m1 m2 : Seated J R) → st.word ≡ i
      → i < slots → is_open (word_of r) ≡ true → claimed st m r m1 → m2 ≡ (m1.0, (i, Empty) ∷ rest m1.1)
      → IsTied slots worker None posts front low m → IsTied slots worker (Some i) 0 front low m2
  tied_claimed slots i r worker st posts front low m m1 m2 at near is did now t = let hit = match_true (is_open (word_of r))
      (TakesJob st m m1) (looked st m r m1) is did in let me : Path (View J R) m2.0 m1.0 = ap (λ (x : Seated J R). x.0) now in record {
        live = ap (λ (v : View J R). v.live) me ∙ (hit.1.0 ∙ t.live);
        idle = ap (λ (v : View J R). v.drawn) me ∙ (hit.2 ∙ t.idle);
        numbered = ap (λ (v : View J R). v.worker) me ∙ (hit.1.3 ∙ t.numbered);
        fronted = ap (λ (v : View J R). v.front) me ∙ (hit.3 ∙ t.fronted);
        lowered = ap (λ (v : View J R). v.low) me ∙ (hit.4 ∙ t.lowered);
        holds = ap (λ (v : View J R). holding v.mine) me ∙ (ap holding hit.6.1 ∙ ap (λ k. Some k) at);
        posts_are = ap (λ (v : View J R). posted v.mine) me ∙ ap posted hit.6.1;
        carries = ap (λ (x : Seated J R). map tag x.1) now
            ∙ (ap (λ (l : List (ℕ × Slot J R)). map tag ((i, Empty) ∷ rest l)) hit.5 ∙ ap (λ (l : List (ℕ × ℕ)). (i, 0) ∷ l) t.carries);
        near = omega arith;
        within = t.within;
        inside = λ k e. let x : i ≡ k = cc in subst (λ z. z < slots) x near;
        lower = t.lower;
      }

  -- and over the end of a claim
  pub tied_ended : (slots i worker posts front low : ℕ) (row : R) (e : Event J R) (m m1 m2 : Seated J R)
      → ((h : List (Event J R)) → holding (e ∷ h) ≡ None) → ((h : List (Event J R)) → posted (e ∷ h) ≡ 0)
      → m1 ≡ (m.0, (i, Row row) ∷ rest m.1) → Leaves m1 m2 → m2.0.mine ≡ e ∷ m1.0.mine
      → IsTied slots worker (Some i) posts front low m → IsTied slots worker None 0 front low m2
  tied_ended slots i worker posts front low row e m m1 m2 goes zero now did adds t = let me : Path (View J R) m1.0 m.0 = ap
      (λ (x : Seated J R). x.0) now in record {
        live = did.0.0 ∙ (ap (λ (v : View J R). v.live) me ∙ t.live);
        idle = did.1;
        numbered = did.0.3 ∙ (ap (λ (v : View J R). v.worker) me ∙ t.numbered);
        fronted = did.3 ∙ (ap (λ (v : View J R). v.front) me ∙ t.fronted);
        lowered = did.2 ∙ (ap (λ (v : View J R). v.low) me ∙ t.lowered);
        holds = ap holding adds ∙ goes m1.0.mine;
        posts_are = ap posted adds ∙ zero m1.0.mine;
        carries = ap (map tag) did.4 ∙ (ap (λ (x : Seated J R). map tag (rest x.1)) now
            ∙ ap (λ (l : List (ℕ × Slot J R)). map tag (rest l)) (carried_is m.1 (Some i) t.carries));
        near = omega arith;
        within = t.within;
        inside = λ k e. absurd (cc);
        lower = t.lower;
      }

  -- the tie holds where a pass keeps all but its front
  tied_kept : (slots worker : ℕ) (claim : Option ℕ) (posts front front2 low : ℕ) (m m1 : Seated J R) → Same m.0 m1.0
      → m1.0.drawn ≡ m.0.drawn → m1.0.low ≡ m.0.low → m1.0.mine ≡ m.0.mine → m1.1 ≡ m.1 → m1.0.front ≡ front2 → posts ≤ front2
      → front2 ≤ slots → IsTied slots worker claim posts front low m → IsTied slots worker claim posts front2 low m1
  tied_kept slots worker claim posts front front2 low m m1 same drawn lowered mine carried fronted near within t = record {
    live = same.0 ∙ t.live;
    idle = drawn ∙ t.idle;
    numbered = same.3 ∙ t.numbered;
    fronted = fronted;
    lowered = lowered ∙ t.lowered;
    holds = ap holding mine ∙ t.holds;
    posts_are = ap posted mine ∙ t.posts_are;
    carries = ap (map tag) carried ∙ t.carries;
    near = near;
    within = within;
    inside = t.inside;
    lower = t.lower;
  }

  -- a number that another has drawn before is passed
  pub tied_passed : (cap slots i worker : ℕ) (claim : Option ℕ) (posts low : ℕ) (m m1 : Seated J R) → i < slots → TriesDraw cap i false m m1
      → IsTied slots worker claim posts i low m → IsTied slots worker claim posts (i + 1) low m1
  tied_passed cap slots i worker claim posts low m m1 near did t = let x = t.near in
      tied_kept slots worker claim posts i (i + 1) low m m1 did.0 did.4.1 did.1 did.3.1 did.4.0 did.2 (omega arith) (omega arith) t

  -- a look at the front, which is absent
  pub tied_seen : (slots r worker : ℕ) (claim : Option ℕ) (st : Step (Slot J R)) (posts front low : ℕ) (m m1 : Seated J R)
      → is_absent (word_of r) ≡ true → front_moved st m r m1
      → IsTied slots worker claim posts front low m → IsTied slots worker claim posts front low m1
  tied_seen slots r worker claim st posts front low m m1 none did t =
      tied_kept slots worker claim posts front front low m m1 did.1 did.2 did.3 did.5.1 did.0
      (did.4 ∙ ap (λ b. cond b m.0.front (st.word + 1)) none ∙ t.fronted) t.near t.within t

  -- a look at the front, which is used
  pub tied_stepped : (slots i r worker : ℕ) (claim : Option ℕ) (st : Step (Slot J R)) (posts low : ℕ) (m m1 : Seated J R) → st.word ≡ i
      → i < slots → is_absent (word_of r) ≡ false → front_moved st m r m1
      → IsTied slots worker claim posts i low m → IsTied slots worker claim posts (i + 1) low m1
  tied_stepped slots i r worker claim st posts low m m1 at near other did t = let x = t.near in
      tied_kept slots worker claim posts i (i + 1) low m m1 did.1 did.2 did.3 did.5.1 did.0
      (did.4 ∙ ap (λ b. cond b m.0.front (st.word + 1)) other ∙ ap (λ k. k + 1) at) (omega arith) (omega arith) t

  -- a number is drawn, gets the job, and is opened
  pub tied_posted : (cap slots i worker : ℕ) (claim : Option ℕ) (job : J) (posts low : ℕ) (m m1 m2 m3 : Seated J R) → i < slots
      → TriesDraw cap i true m m1 → m2 ≡ (m1.0, (i, Job job) ∷ rest m1.1) → OpensDrawn cap i m2 m3
      → IsTied slots worker claim posts i low m → IsTied slots worker claim (posts + 1) (i + 1) low m3
  tied_posted cap slots i worker claim job posts low m m1 m2 m3 near did now opens t = let hit = did.4 in let did2 = opens.0 in
      let me : Path (View J R) m2.0 m1.0 = ap (λ (x : Seated J R). x.0) now in record {
        live = did2.0.0 ∙ (ap (λ (v : View J R). v.live) me ∙ (did.0.0 ∙ t.live));
        idle = did2.1;
        numbered = did2.0.3 ∙ (ap (λ (v : View J R). v.worker) me ∙ (did.0.3 ∙ t.numbered));
        fronted = did2.3 ∙ (ap (λ (v : View J R). v.front) me ∙ did.2);
        lowered = did2.2 ∙ (ap (λ (v : View J R). v.low) me ∙ (did.1 ∙ t.lowered));
        holds = ap holding opens.1.4.1 ∙ (ap (λ (v : View J R). holding v.mine) me ∙ (ap holding did.3.1 ∙ t.holds));
        posts_are = ap posted opens.1.4.1 ∙ ap (λ k. k + 1) (ap (λ (v : View J R). posted v.mine) me ∙ (ap posted did.3.1 ∙ t.posts_are));
        carries = ap (map tag) did2.4 ∙ (ap (λ (x : Seated J R). map tag (rest x.1)) now
            ∙ (ap (λ (l : List (ℕ × Slot J R)). map tag (rest l)) hit.0 ∙ t.carries));
        near = let x = t.near in omega arith;
        within = omega arith;
        inside = t.inside;
        lower = t.lower;
      }
