-- Passes that are made and taken in, and the row at the start.
use Rattle.std.proofs.lemmas.Grind.{common_steps}
use Rattle.std.proofs.Common.{◌≡◌, ◌≢◌, ℕ, zero, suc, eqb, subst, ◌+◌, ◌<◌, ◌≤◌, ◌⊎◌, Bool, true, false, cond, ltb, List, [], ◌∷◌, ◌++◌}
use Rattle.std.proofs.Common.{length, get_or, set, replicate, map, sym, refl, ap, ◌∙◌, inl, inr, ⊎_elim, arith, length-set, Option, Some}
use Rattle.std.proofs.{Common.None, lemmas.List.append-nil}
use mathlib.Core.{Path.Path, Option.{some, some-injective, some-ne-none}}
use lib.ListN.{get_elem?}
use Rattle.atomic_table.specs.Table.{State, Splits, Joins, opening}
use Rattle.atomic_table.proofs.Lists.{at_set, set_else}
use Rattle.lc_board.specs.{State.{Absent, Open, Claimed, status}, Part.part, Growth.put, WordCode.code, WordHistory.{Homes, SlotHolds}}
use Rattle.lc_board.specs.WordHistory.{HasJoined, Knows, ShowsHistory}
use Rattle.lc_board.specs.declared.{words.{coding.Word.Word, view.{Slot.{Slot, TheVariants.{Empty, Job}}, View.View}}, event.Event.Event}
use Rattle.lc_board.specs.WordSteps.{view_before_split, kept_by_split, larger, given_by_split, merged, spent}
use Rattle.lc_board.proofs.{Growths.{at_put, put_here, put_else}, WordsMoved.{same_some, agree_put}}
use mathlib.Core.Option as maybe
use Rattle.lc_board.specs.declared.words.coding.Word.TheVariants as word

at_end : {A : Type 0} (l : List A) (a b : A) (j : ℕ) → get_elem? (l ++ a ∷ []) j ≡ some b
    → (get_elem? l j ≡ some b) ⊎ ((j ≡ length l) × (a ≡ b))
at_end [] a b zero e = inr (refl, some-injective a b e)
at_end [] a b (suc j) e = absurd (some-ne-none b (sym e))
at_end (x ∷ xs) a b zero e = inl e
at_end (x ∷ xs) a b (suc j) e = ⊎_elim (λ y. inl y) (λ y. inr (ap suc y.0, y.1)) (at_end xs a b j e)

at_append : {A : Type 0} (l m : List A) (b : A) (j : ℕ) → get_elem? (l ++ m) j ≡ some b
    → (get_elem? l j ≡ some b) ⊎ ((n : ℕ) × (get_elem? m n ≡ some b))
at_append [] m b j e = inr (j, e)
at_append (x ∷ xs) m b zero e = inl e
at_append (x ∷ xs) m b (suc j) e = at_append xs m b j e

-- what holds below each of two numbers holds below the larger
below_larger : (a b : ℕ) (P : ℕ → Type 0) (c : Bool) → ((k : ℕ) → k < a → P k) → ((k : ℕ) → k < b → P k) → (k : ℕ) → k < cond c b a → P k
below_larger a b P c h1 h2 k h3 = grind (arith, common_steps)

-- the seat o's workers go to the seat id
abbrev redirect : ℕ → ℕ → Option ℕ → Option ℕ
redirect o id None = None
redirect o id (Some x) = cond (eqb x o) (Some id) (Some x)

redirect_none : (o id : ℕ) (x : Option ℕ) → redirect o id x ≡ None → x ≡ None
redirect_none o id x h1 = grind (arith, common_steps)

redirect_to : (o id : ℕ) (x : Option ℕ) → x ≡ Some o → redirect o id x ≡ Some id
redirect_to o id x e = ap (redirect o id) e ∙ ap (λ b. cond b (Some id) (Some o)) (Rattle.std.proofs.Common.eq-eqb o o refl)

redirect_else : (o id j : ℕ) (x : Option ℕ) → x ≡ Some j → j ≢ o → redirect o id x ≡ Some j
redirect_else o id j x e n = ap (redirect o id) e ∙ ap (λ b. cond b (Some id) (Some j)) (Rattle.std.proofs.Common.ne_eqb j o n)

module _ {J R : Type 0} where
  -- the rule stays where only the views and the owners change
  reseated : (root : Option J) (workers : ℕ) (s : State (Slot J R) (View J R)) (r : ShowsHistory root workers s) (views : List (View J R))
      (owner : ℕ → Option ℕ)
      → ((u : ℕ) → owner u ≡ None → (part u r.history ≡ []) × ((k : ℕ) → (r.faces k ≢ word.Drawn u) × (r.faces k ≢ word.Claimed u)))
      → ((j : ℕ) (v : View J R) → get_elem? views j ≡ some v → v.live ≡ true → Knows root workers r.history r.faces owner j v)
      → ShowsHistory root workers record { words = s.words; homes = s.homes; views = views }
  reseated root workers s r views owner idle seats = record {
    history = r.history;
    faces = r.faces;
    owner = owner;
    state = r.state;
    wide = r.wide;
    lies = r.lies;
    busy = r.busy;
    idle = idle;
    each_seat = seats;
  }

  -- what a pass took in is told by the owners of now
  reowned : (h : List (Event J R)) (faces : ℕ → Word) (owner owner' : ℕ → Option ℕ) (j worker u : ℕ) (m : List (Event J R))
      → HasJoined h faces owner j worker u m → owner' u ≡ Some j → HasJoined h faces owner' j worker u m
  reowned h faces owner owner' j worker u m x o = record { owned = o; other = x.other; events = x.events; idle = x.idle }

  -- a pass knows what it knew where owners, the passes that it makes or took in, and its front change
  reknown : (root : Option J) (workers : ℕ) (h : List (Event J R)) (faces : ℕ → Word) (owner owner' : ℕ → Option ℕ) (j : ℕ)
      (d : View J R) (made : ℕ) (joined : List (ℕ × List (Event J R))) (front : ℕ) → Knows root workers h faces owner j d
      → owner' d.worker ≡ Some j → ((i : ℕ) → i < front → faces i ≢ word.Absent)
      → (0 < made → (j ≡ 0) × ((u : ℕ) → made ≤ u → owner' u ≡ None))
      → ((n u : ℕ) (m : List (Event J R)) → get_elem? joined n ≡ some (u, m) → HasJoined h faces owner' j d.worker u m)
      → Knows root workers h faces owner' j (record d { made = made; joined = joined; front = front })
  reknown root workers h faces owner owner' j d made joined front h1 h2 h3 h4 h5 = grind (arith, common_steps)

  -- a pass that is made from the first keeps the row of words
  pub splits : (root : Option J) (workers id : ℕ) (v : View J R) → v.live ≡ true → 0 < v.made → v.made < workers
      → Splits (ShowsHistory root workers) id v (kept_by_split v) (given_by_split v)
  splits root workers id v lives some_made room s r at = let k = r.each_seat id v at lives in let deals = k.deals some_made in
      let n : ℕ = length s.views in
      let owner' : ℕ → Option ℕ = put r.owner v.made (Some n) in
      let fresh : r.owner v.made ≡ None = deals.1 v.made (omega arith) in
      let other : (u j : ℕ) → r.owner u ≡ Some j → u ≢ v.made = (λ u j e x. let y = sym e ∙ (ap r.owner x ∙ fresh) in cc) in
      let kept : (u j : ℕ) → r.owner u ≡ Some j → owner' u ≡ Some j = (λ u j e. put_else r.owner v.made (Some n) u (other u j e) ∙ e) in
      let unused = r.idle v.made fresh in
      reseated root workers s r (set s.views id (kept_by_split v) ++ given_by_split v ∷ []) owner'
      (λ u. at_put r.owner v.made (Some n) (λ z o. o ≡ None → (part z r.history ≡ [])
      × ((q : ℕ) → (r.faces q ≢ word.Drawn z) × (r.faces q ≢ word.Claimed z))) u (λ e. absurd cc) (λ _ e. r.idle u e))
      (λ j d e live. ⊎_elim
      (λ (x : get_elem? (set s.views id (kept_by_split v)) j ≡ some d). ⊎_elim
      (λ (y : (j ≡ id) × (kept_by_split v ≡ d)). subst (λ (z : ℕ × View J R). Knows root workers r.history r.faces owner' z.0 z.1)
      (λ i. (sym y.0 i, y.1 i))
      (reknown root workers r.history r.faces r.owner owner' id v (v.made + 1) v.joined v.front k (kept v.worker id k.owns) k.front
      (λ _. (deals.0, λ u le. put_else r.owner v.made (Some n) u (λ z. absurd (omega arith)) ∙ deals.1 u (omega arith)))
      (λ a u m is. let q = k.joins a u m is in
      reowned r.history r.faces r.owner owner' id v.worker u m q (kept u id q.owned))))
      (λ (y : (j ≢ id) × (get_elem? s.views j ≡ some d)). let kd = r.each_seat j d y.1 live in
      reknown root workers r.history r.faces r.owner owner' j d d.made d.joined d.front kd (kept d.worker j kd.owns) kd.front
      (λ more. absurd (y.0 ((kd.deals more).0 ∙ sym deals.0))) (λ a u m is. let q = kd.joins a u m is in
      reowned r.history r.faces r.owner owner' j d.worker u m q (kept u j q.owned)))
      (at_set s.views id j (kept_by_split v) d x))
      (λ (x : (j ≡ length (set s.views id (kept_by_split v))) × (given_by_split v ≡ d)). subst
      (λ (z : ℕ × View J R). Knows root workers r.history r.faces owner' z.0 z.1)
      (λ i. (sym (x.0 ∙ length-set s.views id (kept_by_split v)) i, x.1 i)) record {
        root_is = k.root_is;
        workers_are = k.workers_are;
        member = room;
        mine = unused.0;
        seen = (r.history, sym (append-nil r.history));
        own = refl;
        owns = put_here r.owner v.made (Some n);
        drew = λ q f. absurd ((unused.1 q).0 f);
        draws = λ q f. absurd (omega arith);
        low = λ q f. absurd (omega arith);
        front = k.front;
        deals = λ f. absurd (omega arith);
        joins = λ a u m f. absurd (some-ne-none (u, m) (sym f));
      })
      (at_end (set s.views id (kept_by_split v)) (given_by_split v) d j e))

  -- so does one that is taken in at close
  pub merges : (root : Option J) (workers id : ℕ) (v : View J R) (other : ℕ) (w : View J R) → v.live ≡ true → w.live ≡ true
      → w.drawn ≡ 0 → Joins (ShowsHistory root workers) id v other w (merged v w) spent
  merges root workers id v other w lives lives' still s r at apart at' = let k = r.each_seat id v at lives in
      let there = sym (set_else s.views id other (merged v w) apart) ∙ at' in let kw = r.each_seat other w there lives' in
      let owner' : ℕ → Option ℕ = λ u. redirect other id (r.owner u) in
      let mine_stays : (u : ℕ) → r.owner u ≡ Some id
      → owner' u ≡ Some id = (λ u e. redirect_else other id id (r.owner u) e (λ x. apart (sym x))) in
      reseated root workers s r (set (set s.views id (merged v w)) other spent) owner'
      (λ u e. r.idle u (redirect_none other id (r.owner u) e))
      (λ j d e live. ⊎_elim
      (λ (y : (j ≡ other) × (spent ≡ d)). let x : false ≡ true = ap (λ (z : View J R). z.live) y.1 ∙ live in absurd cc)
      (λ (y : (j ≢ other) × (get_elem? (set s.views id (merged v w)) j ≡ some d)). ⊎_elim
      (λ (z : (j ≡ id) × (merged v w ≡ d)). subst (λ (q : ℕ × View J R). Knows root workers r.history r.faces owner' q.0 q.1)
      (λ i. (sym z.0 i, z.1 i)) (reknown root workers r.history r.faces r.owner owner' id v v.made
      (v.joined ++ (w.worker, w.mine) ∷ w.joined) (larger v.front w.front) k (mine_stays v.worker k.owns)
      (λ q l. below_larger v.front w.front (λ z. r.faces z ≢ word.Absent) (ltb v.front w.front) k.front kw.front q l)
      (λ more. let x = k.deals more in (x.0, λ u le. ap (redirect other id) (x.1 u le)))
      (λ n u m is. ⊎_elim (λ (q : get_elem? v.joined n ≡ some (u, m)). let x = k.joins n u m q in
      reowned r.history r.faces r.owner owner' id v.worker u m x (mine_stays u x.owned))
      (λ (q : (a : ℕ) × (get_elem? ((w.worker, w.mine) ∷ w.joined) a ≡ some (u, m))). joined_one q.0 u m q.1)
      (at_append v.joined ((w.worker, w.mine) ∷ w.joined) (u, m) n is))))
      (λ (z : (j ≢ id) × (get_elem? s.views j ≡ some d)). let kd = r.each_seat j d z.1 live in
      reknown root workers r.history r.faces r.owner owner' j d d.made d.joined d.front kd
      (redirect_else other id j (r.owner d.worker) kd.owns y.0) kd.front
      (λ more. let x = kd.deals more in (x.0, λ u le. ap (redirect other id) (x.1 u le)))
      (λ a u m is. let x = kd.joins a u m is in
      reowned r.history r.faces r.owner owner' j d.worker u m x (redirect_else other id j (r.owner u) x.owned y.0)))
      (at_set s.views id j (merged v w) d y.1))
      (at_set (set s.views id (merged v w)) other j spent d e))
    where
      joined_one : (a u : ℕ) (m : List (Event J R)) → get_elem? ((w.worker, w.mine) ∷ w.joined) a ≡ some (u, m)
          → HasJoined r.history r.faces (λ x. redirect other id (r.owner x)) id v.worker u m
      joined_one zero u m is = let e = some-injective (w.worker, w.mine) (u, m) is in let k = r.each_seat id v at lives in
          let there = sym (set_else s.views id other (merged v w) apart) ∙ at' in let kw = r.each_seat other w there lives' in
          subst (λ (z : ℕ × List (Event J R)). HasJoined r.history r.faces (λ x. redirect other id (r.owner x)) id v.worker z.0 z.1) e
          (record {
            owned = redirect_to other id (r.owner w.worker) kw.owns;
            other = λ x. apart (same_some (sym kw.owns ∙ (ap r.owner x ∙ k.owns)));
            events = kw.mine;
            idle = λ q f. let d = kw.drew q f in absurd (omega arith);
          })
      joined_one (suc a) u m is = let k = r.each_seat id v at lives in let there = sym (set_else s.views id other (merged v w) apart)
          ∙ at' in let kw = r.each_seat other w there lives' in let x = kw.joins a u m is in record {
            owned = redirect_to other id (r.owner u) x.owned;
            other = λ y. apart (same_some (sym x.owned ∙ (ap r.owner y ∙ k.owns)));
            events = x.events;
            idle = x.idle;
          }

abbrev pub blank : ℕ → List ℕ
blank n = replicate n 0

empties : (J R : Type 0) (n k : ℕ) → k < n
    → Path (maybe.Option (maybe.Option (Slot J R))) (get_elem? (map some (replicate n Empty)) k) (some (some Empty))
empties J R zero k l = absurd (omega arith)
empties J R (suc n) zero l = refl
empties J R (suc n) (suc k) l = empties J R n k (omega arith)

long : (J R : Type 0) (n : ℕ) → length (map (λ (x : Slot J R). some x) (replicate n Empty)) ≡ n
long J R n = grind (arith, common_steps)

long_zeros : (n : ℕ) → length (blank n) ≡ n
long_zeros n = grind (arith, common_steps)

abbrev first_faces : ℕ → Word
first_faces = put (λ _. word.Absent) 0 word.Open

module _ (J R : Type 0) (root : J) (workers n : ℕ) (some_worker : 0 < workers) where
  abbrev first_homes : Homes J R
  first_homes = some (Job root) ∷ map some (replicate n Empty)

  counted : length first_homes ≡ suc n
  counted = ap suc (long J R n)

  first_shows : (k : ℕ) → k < suc n → get_or (1 ∷ blank n) k 0 ≡ code (first_faces k)
  first_shows k h1 = grind (arith, common_steps, put_else)

  first_lies : (k : ℕ) → k < suc n → SlotHolds (Some root) [] first_homes k (first_faces k)
  first_lies zero l = (root, refl, refl)
  first_lies (suc k) l = grind (arith, common_steps, put_else, empties)

  -- word 0 is open with the root in its slot, and the others are absent
  pub begins : (ws : List ℕ) (xs : List (Slot J R)) → ws ≡ 1 ∷ blank n → xs ≡ Job root ∷ replicate n Empty
      → ShowsHistory (Some root) workers (opening ws xs (view_before_split (Some root) workers))
  begins ws xs is are = subst (λ (z : List ℕ × List (Slot J R)). ShowsHistory (Some root) workers
      (opening z.0 z.1 (view_before_split (Some root) workers))) (λ i. (sym is i, sym are i)) record {
        history = [];
        faces = first_faces;
        owner = put (λ _. None) 0 (Some 0);
        state = record {
          legal = tt;
          matched = tt;
          shows = λ k l. first_shows k (subst (λ z. k < z) counted l);
          agrees = λ k. agree_put (λ _. Absent) (λ _. word.Absent) 0 Open word.Open refl (λ _. refl) k;
          beyond = λ k l. put_else (λ _. word.Absent) 0 word.Open k (λ e. let x = counted in absurd (omega arith));
          together = λ k l le e. at_put (λ _. word.Absent) 0 word.Open (λ z f. f ≡ word.Absent → z ≤ l → first_faces l ≡ word.Absent) k
              (λ x. absurd cc) (λ ne _ y. put_else (λ _. word.Absent) 0 word.Open l (λ z. absurd (ne (omega arith)))) e le;
        };
        wide = ap suc (long_zeros n) ∙ sym counted;
        lies = λ k l. first_lies k (subst (λ z. k < z) counted l);
        busy = λ k w. at_put (λ _. word.Absent) 0 word.Open
            (λ z f. f ≡ word.Drawn w → (p : ℕ) × (status {J = J} {R = R} [] p ≡ Claimed w)) k (λ e. absurd cc) (λ _ e. absurd cc);
        idle = λ u e. (
          refl,
          λ k. (
            at_put (λ _. word.Absent) 0 word.Open (λ z f. f ≢ word.Drawn u) k (λ x. cc) (λ _ x. cc),
            at_put (λ _. word.Absent) 0 word.Open (λ z f. f ≢ word.Claimed u) k (λ x. cc) (λ _ x. cc),
          ),
        );
        each_seat = first_seats;
      }
    where
      first_seat : Knows (Some root) workers [] first_faces (put (λ _. None) 0 (Some 0)) 0
          (view_before_split {J = J} {R = R} (Some root) workers)
      first_seat = record {
        root_is = refl;
        workers_are = refl;
        member = some_worker;
        mine = refl;
        seen = ([], refl);
        own = refl;
        owns = refl;
        drew = λ k. at_put (λ _. word.Absent) 0 word.Open (λ z f. f ≡ word.Drawn 0 → 0 ≡ z + 1) k (λ e. absurd cc) (λ _ e. absurd cc);
        draws = λ k e. absurd (omega arith);
        low = λ k l. absurd (omega arith);
        front = λ k l. subst (λ z. first_faces z ≢ word.Absent) (let e : 0 ≡ k = omega arith in e) (λ x. cc);
        deals = λ _. (refl, λ u l. put_else (λ _. None) 0 (Some 0) u (λ z. absurd (omega arith)));
        joins = λ a u m e. absurd (some-ne-none (u, m) (sym e));
      }

      first_seats : (j : ℕ) (v : View J R) → get_elem? (view_before_split (Some root) workers ∷ []) j ≡ some v → v.live ≡ true
          → Knows (Some root) workers [] first_faces (put (λ _. None) 0 (Some 0)) j v
      first_seats zero v e live = subst (λ z. Knows (Some root) workers [] first_faces (put (λ _. None) 0 (Some 0)) 0 z)
          (some-injective (view_before_split (Some root) workers) v e) first_seat
      first_seats (suc j) v e live = absurd (some-ne-none v (sym e))
