-- What stays of the row of words when one number and one pass move.
use Rattle.std.proofs.lemmas.Grind.{common_steps}
use Rattle.std.proofs.Common.{◌∷◌, ◌≡◌, ◌≢◌, ◌↔◌, ℕ, eqb, subst, ◌+◌, ◌<◌, true, false, cond, List, length, get_or, set, sym, ap}
use Rattle.std.proofs.Common.{◌∙◌, ⊎_elim, arith, length-set, get_or-set_same, get_or-set_other, Option, Some, None}
use mathlib.Core.{Path.Path, Option.some}
use lib.ListN.{get_elem?}
use Rattle.atomic_table.specs.Table.{State}
use Rattle.atomic_table.proofs.Lists.{at_set}
use Rattle.lc_board.specs.{State.{Status, Claimed, status}, Part.part, LegalHistory.IsLegal, Holding.holding, RowsInPlace.row_given}
use Rattle.lc_board.specs.{Growth.{GoesOn, IsEnded, put, job_at, IsMatched}, WordCode.{shown, code}}
use Rattle.lc_board.specs.WordHistory.{Homes, SlotHolds, HasJoined}
use Rattle.lc_board.specs.{WordHistory.{Knows, ShowsState, ShowsHistory}, WordSteps.IsFair}
use Rattle.lc_board.specs.declared.{words.{coding.Word.Word, view.{Slot.Slot, View.View}}, event.Event.Event}
use Rattle.lc_board.proofs.{HeldClaims.part_tells_claim, Growths.{at_put, put_else, whole, goes_trans, rank_most, rank_from}}
use Rattle.lc_board.specs.declared.words.coding.Word.TheVariants as word

-- a number is the same for the worker u
pub record IsApart (u : ℕ) (faces faces' : ℕ → Word) : Type 0 where
  -- a word that the worker has drawn stays so
  pub drawn_to : (k : ℕ) → faces k ≡ word.Drawn u → faces' k ≡ word.Drawn u
  -- and was so
  pub drawn_from : (k : ℕ) → faces' k ≡ word.Drawn u → faces k ≡ word.Drawn u
  -- a word that it has claimed was so
  pub taken_from : (k : ℕ) → faces' k ≡ word.Claimed u → faces k ≡ word.Claimed u

-- a status that is claimed is that of one word alone
pub of_shown : (c : Word) (w : ℕ) → shown c ≡ Claimed w → c ≡ word.Claimed w
of_shown c w h1 = grind (arith, common_steps)

apart_at : (u : ℕ) (faces : ℕ → Word) (i : ℕ) (c' : Word) → faces i ≢ word.Drawn u → c' ≢ word.Drawn u → c' ≢ word.Claimed u
    → IsApart u faces (put faces i c')
apart_at u faces i c' h1 h2 h3 = grind (arith, common_steps, at_put)

-- nothing moved for it
pub apart_same : (u : ℕ) (faces : ℕ → Word) → IsApart u faces faces
apart_same u faces = record { drawn_to = λ k e. e; drawn_from = λ k e. e; taken_from = λ k e. e }

-- where a word and its status move together they agree
pub agree_put : (s : ℕ → Status) (faces : ℕ → Word) (i : ℕ) (m : Status) (c' : Word) → m ≡ shown c' → ((k : ℕ) → s k ≡ shown (faces k))
    → (k : ℕ) → put s i m k ≡ shown (put faces i c' k)
agree_put s faces i m c' is old k = elim (eqb k i) as (λ b. cond b m (s k) ≡ shown (cond b c' (faces k))) [ true ↦ is | false ↦ old k ]

more_at : (faces : ℕ → Word) (i : ℕ) (c' : Word) → c' ≢ word.Absent → (k : ℕ) → put faces i c' k ≡ word.Absent
    → (k ≢ i) × (faces k ≡ word.Absent)
more_at faces i c' h1 k h2 = grind (arith, common_steps, at_put)

-- the same of two that are there
pub same_some : {a b : ℕ} → Path (Option ℕ) (Some a) (Some b) → a ≡ b
same_some e = cc

module _ {J R : Type 0} where
  -- what a pass has claimed, as its events say it
  pub held_is : (root : Option J) (workers : ℕ) (s : State (Slot J R) (View J R)) (r : ShowsHistory root workers s) (me : ℕ) (v : View J R)
      → Knows root workers r.history r.faces r.owner me v
      → (i : ℕ) → (holding v.mine ≡ Some i) ↔ (status r.history i ≡ Claimed v.worker)
  held_is root workers s r me v k i =
      let t = part_tells_claim (length s.homes) workers r.history r.state.legal v.worker in
      subst (λ m. (holding m ≡ Some i) ↔ (status r.history i ≡ Claimed v.worker)) k.mine (t.claimed i)

  still_joined : (h h' : List (Event J R)) (faces faces' : ℕ → Word) (owner : ℕ → Option ℕ) (j worker u : ℕ) (m : List (Event J R))
      → part u h' ≡ part u h → IsApart u faces faces' → HasJoined h faces owner j worker u m → HasJoined h' faces' owner j worker u m
  still_joined h h' faces faces' owner j worker u m h1 h2 h3 = grind (arith, common_steps)

  others_know : (root : Option J) (workers : ℕ) (h h' : List (Event J R)) (faces faces' : ℕ → Word) (owner : ℕ → Option ℕ) (j : ℕ)
      (d : View J R)
      → part d.worker h' ≡ part d.worker h → ((n u : ℕ) (m : List (Event J R)) → get_elem? d.joined n ≡ some (u, m)
      → (part u h' ≡ part u h) × IsApart u faces faces') → GoesOn h' h → IsApart d.worker faces faces'
      → ((k : ℕ) → faces' k ≡ word.Absent → faces k ≡ word.Absent) → Knows root workers h faces owner j d
      → Knows root workers h' faces' owner j d
  others_know root workers h h' faces faces' owner j d same sames longer apart more k = record {
    root_is = k.root_is;
    workers_are = k.workers_are;
    member = k.member;
    mine = same ∙ k.mine;
    seen = goes_trans h' h d.seen longer k.seen;
    own = k.own;
    owns = k.owns;
    drew = λ i e. k.drew i (apart.drawn_from i e);
    draws = λ i e. apart.drawn_to i (k.draws i e);
    low = k.low;
    front = λ i l e. k.front i l (more i e);
    deals = k.deals;
    joins = λ n u m e. let x = sames n u m e in still_joined h h' faces faces' owner j d.worker u m x.0 x.1 (k.joins n u m e);
  }

  -- passes at other seats are other workers'
  pub other_worker : (root : Option J) (workers : ℕ) (h : List (Event J R)) (faces : ℕ → Word) (owner : ℕ → Option ℕ) (me j : ℕ)
      (v d : View J R) → Knows root workers h faces owner me v → Knows root workers h faces owner j d → j ≢ me → d.worker ≢ v.worker
  other_worker root workers h faces owner me j v d a b ne e = ne (same_some (sym b.owns ∙ (ap owner e ∙ a.owns)))

  pub record IsNext (root : Option J) (workers : ℕ) (s : State (Slot J R) (View J R)) (r : ShowsHistory root workers s) (worker : ℕ)
      (h' : List (Event J R)) (faces' : ℕ → Word) (words' : List ℕ) (homes' : Homes J R) : Type 0 where
    pub long : length homes' ≡ length s.homes
    pub wide : length words' ≡ length s.words
    pub state : ShowsState root workers (length s.homes) words' h' faces'
    pub grows : GoesOn h' r.history
    pub parts : (u : ℕ) → u ≢ worker → part u h' ≡ part u r.history
    pub lies : (k : ℕ) → k < length s.homes → SlotHolds root h' homes' k (faces' k)
    pub busy : (k w : ℕ) → faces' k ≡ word.Drawn w → (p : ℕ) × (status h' p ≡ Claimed w)
    pub apart : (u : ℕ) → u ≢ worker → IsApart u r.faces faces'
    pub more : (k : ℕ) → faces' k ≡ word.Absent → r.faces k ≡ word.Absent

  -- the row of words after one worker's step, from what its pass knows
  rebuilt : (root : Option J) (workers : ℕ) (s : State (Slot J R) (View J R)) (r : ShowsHistory root workers s) (me : ℕ) (v : View J R)
      → get_elem? s.views me ≡ some v → v.live ≡ true
      → (h' : List (Event J R)) (faces' : ℕ → Word) (words' : List ℕ) (homes' : Homes J R) (w : View J R)
      → IsNext root workers s r v.worker h' faces' words' homes' → Knows root workers h' faces' r.owner me w
      → ShowsHistory root workers record { words = words'; homes = homes'; views = set s.views me w }
  rebuilt root workers s r me v at lives h' faces' words' homes' w n mine = let len : length s.homes ≡ length homes' = sym n.long in
      record {
        history = h';
        faces = faces';
        owner = r.owner;
        state = subst (λ z. ShowsState root workers z words' h' faces') len n.state;
        wide = n.wide ∙ (r.wide ∙ len);
        lies = λ k l. n.lies k (subst (λ z. k < z) n.long l);
        busy = n.busy;
        idle = λ u none. let old = r.idle u none in let ne : u ≢ v.worker = (λ e. let x : Path (Option ℕ) None (Some me) = sym none
            ∙ (ap r.owner e ∙ (r.each_seat me v at lives).owns) in cc) in (
              n.parts u ne ∙ old.0,
              λ k. (
                (λ e. (old.1 k).0 ((n.apart u ne).drawn_from k e)),
                (λ e. (old.1 k).1 ((n.apart u ne).taken_from k e)),
              ),
            );
        each_seat = λ j d e live. ⊎_elim (λ (x : (j ≡ me) × (w ≡ d)). subst
            (λ (y : ℕ × View J R). Knows root workers h' faces' r.owner y.0 y.1) (λ i. (sym x.0 i, x.1 i)) mine)
            (λ (x : (j ≢ me) × (get_elem? s.views j ≡ some d)). let kd = r.each_seat j d x.1 live in let km = r.each_seat me v at lives in
            let ne = other_worker root workers r.history r.faces r.owner me j v d km kd x.0 in
            others_know root workers r.history h' r.faces faces' r.owner j d (n.parts d.worker ne)
            (λ q u m is. let jd = kd.joins q u m is in let off : u ≢ v.worker = (λ (same : u ≡ v.worker). x.0
            (same_some (sym jd.owned ∙ (ap r.owner same ∙ km.owns)))) in (n.parts u off, n.apart u off))
            n.grows (n.apart d.worker ne) n.more kd)
            (at_set s.views me j w d e);
      }

  -- the numbers that a pass knows to have ended still have
  pub still_ended : (root : Option J) (workers : ℕ) (s : State (Slot J R) (View J R)) (r : ShowsHistory root workers s) (me : ℕ)
      (v : View J R) → Knows root workers r.history r.faces r.owner me v → (h' : List (Event J R)) → IsLegal (length s.homes) workers h'
      → GoesOn h' r.history → (i : ℕ) → i < v.low → IsEnded (status h' i)
  still_ended root workers s r me v k h' legal grows i below = let a = k.low i below in let b = rank_from (length s.homes) workers h' v.seen
      legal (goes_trans h' r.history v.seen grows k.seen) i in let c = rank_most (status h' i) in omega arith

  -- the view of a pass after its own step: it has seen all
  abbrev pub moved : View J R → ℕ → List (Event J R) → List (Event J R) → ℕ → ℕ → ℕ → View J R
  moved v i h mine drawn low front = record v { seen = h; mine = mine; drawn = drawn; low = low; front = front; steps = i ∷ v.steps }

  -- what the step of a worker tells its pass anew: its events, what it has drawn, and its marks
  pub record IsTold (worker : ℕ) (h : List (Event J R)) (faces : ℕ → Word) (mine : List (Event J R)) (drawn low front : ℕ) : Type 0 where
    pub own : part worker h ≡ mine
    pub drew : (k : ℕ) → faces k ≡ word.Drawn worker → drawn ≡ k + 1
    pub draws : (k : ℕ) → drawn ≡ k + 1 → faces k ≡ word.Drawn worker
    pub ended : (k : ℕ) → k < low → IsEnded (status h k)
    pub used : (k : ℕ) → k < front → faces k ≢ word.Absent

  -- the row of words after one worker's step, of which its pass has seen all, and what that has seen is fair
  pub steps_on : (root : Option J) (workers : ℕ) (s : State (Slot J R) (View J R)) (r : ShowsHistory root workers s) (me : ℕ) (v : View J R)
      → get_elem? s.views me ≡ some v → v.live ≡ true → (i : ℕ)
      → (h' : List (Event J R)) (faces' : ℕ → Word) (words' : List ℕ) (homes' : Homes J R) (mine : List (Event J R)) (drawn low front : ℕ)
      → IsNext root workers s r v.worker h' faces' words' homes' → IsTold v.worker h' faces' mine drawn low front
      → ShowsHistory root workers record { words = words'; homes = homes'; views = set s.views me (moved v i h' mine drawn low front) }
      × IsFair (length s.homes) (moved v i h' mine drawn low front)
  steps_on root workers s r me v at lives i h' faces' words' homes' mine drawn low front n told = let k = r.each_seat me v at lives in (
    rebuilt root workers s r me v at lives h' faces' words' homes' (moved v i h' mine drawn low front) n record {
      root_is = k.root_is;
      workers_are = k.workers_are;
      member = k.member;
      mine = told.own;
      seen = whole h';
      own = told.own;
      owns = k.owns;
      drew = told.drew;
      draws = told.draws;
      low = told.ended;
      front = told.used;
      deals = k.deals;
      joins = λ a u m e. let x = k.joins a u m e in
          still_joined r.history h' r.faces faces' r.owner me v.worker u m (n.parts u x.other) (n.apart u x.other) x;
    },
    (
      subst (λ z. IsLegal (length s.homes) z h') (sym k.workers_are) n.state.legal,
      subst (λ z. IsMatched z h') (sym k.root_is) n.state.matched,
      told.own,
    ),
  )

  -- what lies at a home stays where nothing of its number moves
  pub lies_stay : (root : Option J) (h h' : List (Event J R)) (hs hs' : Homes J R) (k : ℕ) → get_elem? hs' k ≡ get_elem? hs k
      → job_at root h' k ≡ job_at root h k → row_given h' k ≡ row_given h k → (c : Word) → SlotHolds root h hs k c
      → SlotHolds root h' hs' k c
  lies_stay root h h' hs hs' k h1 h2 h3 c h4 = grind (arith, common_steps)

  -- what a step on the number i owes
  pub record IsTurn (root : Option J) (workers : ℕ) (s : State (Slot J R) (View J R)) (r : ShowsHistory root workers s) (worker i : ℕ)
      (h' : List (Event J R)) (c' : Word) (homes' : Homes J R) : Type 0 where
    pub near : i < length s.homes
    pub long : length homes' ≡ length s.homes
    pub legal : IsLegal (length s.homes) workers h'
    pub matched : IsMatched root h'
    pub grows : GoesOn h' r.history
    pub parts : (u : ℕ) → u ≢ worker → part u h' ≡ part u r.history
    pub agrees : (k : ℕ) → status h' k ≡ shown (put r.faces i c' k)
    pub filled : r.faces i ≡ word.Absent → (k : ℕ) → k < i → r.faces k ≢ word.Absent
    pub some_face : c' ≢ word.Absent
    pub homes_else : (k : ℕ) → k ≢ i → get_elem? homes' k ≡ get_elem? s.homes k
    pub jobs_else : (k : ℕ) → k ≢ i → job_at root h' k ≡ job_at root r.history k
    pub rows_else : (k : ℕ) → k ≢ i → row_given h' k ≡ row_given r.history k
    pub lies_here : SlotHolds root h' homes' i c'
    pub busy : (k w : ℕ) → put r.faces i c' k ≡ word.Drawn w → (p : ℕ) × (status h' p ≡ Claimed w)
    pub loose : (u : ℕ) → u ≢ worker → (r.faces i ≢ word.Drawn u) × (c' ≢ word.Drawn u) × (c' ≢ word.Claimed u)

  -- one word and one home that turn together
  pub turned : (root : Option J) (workers : ℕ) (s : State (Slot J R) (View J R)) (r : ShowsHistory root workers s) (worker i : ℕ)
      (h' : List (Event J R)) (c' : Word) (homes' : Homes J R) → IsTurn root workers s r worker i h' c' homes'
      → IsNext root workers s r worker h' (put r.faces i c') (set s.words i (code c')) homes'
  turned root workers s r worker i h' c' homes' t = record {
    long = t.long;
    wide = length-set s.words i (code c');
    state = record {
      legal = t.legal;
      matched = t.matched;
      shows = λ k l. at_put r.faces i c' (λ z f. z < length s.homes → get_or (set s.words i (code c')) z 0 ≡ code f) k
          (λ near. get_or-set_same s.words i (code c') 0 (subst (λ z. i < z) (sym r.wide) near))
          (λ ne near. get_or-set_other s.words i k (code c') 0 ne ∙ r.state.shows k near) l;
      agrees = t.agrees;
      beyond = λ k l. let near = t.near in put_else r.faces i c' k (λ e. absurd (omega arith)) ∙ r.state.beyond k l;
      together = λ k l le e. let m = more_at r.faces i c' t.some_face k e in let gone = r.state.together k l le m.1 in
          put_else r.faces i c' l (λ (is : l ≡ i). let lt : k < i = (let ne = m.0 in omega arith) in
          t.filled (ap r.faces (sym is) ∙ gone) k lt m.1) ∙ gone;
    };
    grows = t.grows;
    parts = t.parts;
    lies = λ k l. at_put r.faces i c' (λ z f. z < length s.homes → SlotHolds root h' homes' z f) k (λ _. t.lies_here)
        (λ ne near. lies_stay root r.history h' s.homes homes' k (t.homes_else k ne) (t.jobs_else k ne) (t.rows_else k ne) (r.faces k)
        (r.lies k near)) l;
    busy = t.busy;
    apart = λ u ne. let x = t.loose u ne in apart_at u r.faces i c' x.0 x.1 x.2;
    more = λ k e. (more_at r.faces i c' t.some_face k e).1;
  }
