-- What the fields of a board keep over each call.
use Rattle.std.proofs.lemmas.Grind.{common_steps}
use Rattle.std.proofs.Common.{◌≡◌, ◌≢◌, ℕ, ◌<◌, ◌≤◌, ◌+◌, List, [], ◌∷◌, ◌++◌, length, slice_get, slice_set, slice_index_or}
use Rattle.std.proofs.{Common.{replicate, Option, Some, None, refl, sym, ◌∙◌, ap, subst, arith, length-append}, lemmas.List.length-set}
use Rattle.std.proofs.lemmas.Option.{slice_get_past, slice_get_within}
use Rattle.lc_board.specs.{Limits.capacity_limit, PlainBoard.{Board, held_by, cell_at, first_board}, PlainCalls.IsOpen, PlainFields.IsSound}
use Rattle.lc_board.specs.{PlainFields.IsHeldBy, declared.{plain.cell.Cell.{Cell, TheVariants.{Waiting, Held, Done}}, answers.Ended.Ended}}
use Rattle.lc_board.proofs.Places.{each, each_set, each_push, index_set_same, index_set_other, get_set_other, get_set_same}

module _ {J R : Type 0} where
  -- a cell that is held by a worker has its number of posts
  pub held_cell : (w : ℕ) (o : Option (Cell J R)) → IsHeldBy w o → (n : ℕ) × (o ≡ Some (Held w n))
  held_cell w (Some (Held v n)) h = (n, ap (λ u. Some (Held u n)) h)
  held_cell w _ h = absurd h

  -- a cell that is there lies on the board
  pub cell_inside : (xs : List (Cell J R)) (k : ℕ) (c : Cell J R) → slice_get xs k ≡ Some c → k < length xs
  cell_inside xs k c e = slice_get_within xs k c e

  -- a worker that holds no number has no cell
  pub free_cells : (m : ℕ) (b : Board J R) (w : ℕ) → IsSound m b → held_by b w ≡ None → (k n : ℕ) → cell_at b k ≢ Some (Held w n)
  free_cells m b w s free k n e = let x : None ≡ Some k = sym free ∙ (s.owned k w n e).0 in absurd (cc x)

  -- over a claim
  pub sound_claim : (m w i : ℕ) (j : J) (b : Board J R) → IsSound m b → held_by b w ≡ None → w < length b.held → m ≡ i
      → i < length b.cells → cell_at b i ≡ Some (Waiting j)
      → IsSound (m + 1) (record { capacity = b.capacity; held = slice_set b.held w (Some i); cells = slice_set b.cells i (Held w 0) })
  sound_claim m w i j b h1 h2 h3 h4 h5 h6 =
      grind (arith, length-set, each_set, each, index_set_same, get_set_same, index_set_other, get_set_other)

  -- over a post
  pub sound_post : (m w p n : ℕ) (j : J) (b : Board J R) → IsSound m b → p < length b.cells → length b.cells < b.capacity
      → cell_at b p ≡ Some (Held w n)
      → IsSound m (record { capacity = b.capacity; held = b.held; cells = slice_set b.cells p (Held w (n + 1)) ++ Waiting j ∷ [] })
  sound_post m w p n j b s near fits here =
      let ds = slice_set b.cells p (Held w (n + 1)) in
      let len : length ds ≡ length b.cells = simp length-set in
      let more : length (ds ++ Waiting j ∷ []) ≡ length b.cells + 1 = omega (arith, length-append ds (Waiting j ∷ []), len) in
      record {
        small = s.small;
        fits = omega (arith, more, fits);
        reached = omega (arith, more, s.reached);
        below = each_push (λ k o. k < m → ¬ IsOpen o) ds (Waiting j) (λ less _. absurd (omega (arith, less, len, s.reached)))
            (λ k _. each_set (λ q o. q < m → ¬ IsOpen o) b.cells p (Held w (n + 1)) near (λ _ x. x) (λ q off. s.below q) k);
        above = each_push (λ k o. m ≤ k → k < length (ds ++ Waiting j ∷ []) → IsOpen o) ds (Waiting j) (λ _ _. tt)
            (λ k past far less. let away : k ≢ length ds = past in
            each_set (λ q o. q ≢ length ds → m ≤ q → q < length (ds ++ Waiting j ∷ []) → IsOpen o) b.cells p (Held w (n + 1)) near
            (λ _ far _. absurd (subst IsOpen here (s.above p far near)))
            (λ q off d far less. s.above q far (let e : q ≢ length ds = d in omega (arith, less, more, len, e))) k away far less);
        holds = λ v k e. let c = s.holds v k e in
            each_push (λ q o. IsHeldBy v (slice_get b.cells q) → IsHeldBy v o) ds (Waiting j)
            (λ x. absurd (subst (IsHeldBy v) (slice_get_past b.cells (length ds) (omega (arith, len))) x))
            (λ q _. each_set (λ r o. IsHeldBy v (slice_get b.cells r) → IsHeldBy v o) b.cells p (Held w (n + 1)) near
            (λ x. subst (IsHeldBy v) here x) (λ r off x. x) q)
            k c;
        owned = λ k v u. each_push (λ q o. o ≡ Some (Held v u) → (held_by b v ≡ Some q) × (u < length (ds ++ Waiting j ∷ []))) ds
            (Waiting j)
            (λ x. absurd (cc x))
            (λ q _. each_set (λ r o. o ≡ Some (Held v u) → (held_by b v ≡ Some r) × (u < length (ds ++ Waiting j ∷ []))) b.cells p
            (Held w (n + 1)) near
            (λ x. let was = s.owned p w n here in let vw : w ≡ v = cc x in let un : n + 1 ≡ u = cc x in
            (ap (held_by b) (sym vw) ∙ was.0, omega (arith, more, was.1, un)))
            (λ r off x. let was = s.owned r v u x in (was.0, omega (arith, more, was.1))) q)
            k;
      }

  -- over an end
  pub sound_end : (m w i n : ℕ) (e : Ended R) (b : Board J R) → IsSound m b → w < length b.held → held_by b w ≡ Some i
      → i < length b.cells → cell_at b i ≡ Some (Held w n)
      → IsSound m (record { capacity = b.capacity; held = slice_set b.held w None; cells = slice_set b.cells i (Done e) })
  sound_end m w i n e b s low had near here =
      let ds = slice_set b.cells i (Done e) in
      let hs = slice_set b.held w None in
      let len : length ds ≡ length b.cells = simp length-set in
      record {
        small = s.small;
        fits = rw length-set s.fits;
        reached = omega (arith, len, s.reached);
        below = each_set (λ k o. k < m → ¬ IsOpen o) b.cells i (Done e) near (λ _ x. x) (λ k off. s.below k);
        above = each_set (λ k o. m ≤ k → k < length ds → IsOpen o) b.cells i (Done e) near
            (λ far _. absurd (subst IsOpen here (s.above i far near))) (λ k off far less. s.above k far (omega (arith, less, len)));
        holds = λ v k x. each (λ u. slice_index_or hs u None ≡ Some k → IsHeldBy u (slice_get ds k)) w
            (λ y. let z : None ≡ Some k = sym (index_set_same b.held w None None low) ∙ y in absurd (cc z))
            (λ u off y. let was : held_by b u ≡ Some k = sym (index_set_other b.held w u None None off) ∙ y in
            let c = s.holds u k was in
            let away : k ≢ i = λ ki. let at : cell_at b k ≡ Some (Held w n) = ap (cell_at b) ki ∙ here in let wu : w
            ≡ u = subst (IsHeldBy u) at c in off (sym wu) in
            subst (IsHeldBy u) (sym (get_set_other b.cells i k (Done e) away)) c)
            v x;
        owned = λ k v u. each_set (λ q o. o ≡ Some (Held v u) → (slice_index_or hs v None ≡ Some q) × (u < length ds)) b.cells i
            (Done e) near
            (λ x. absurd (cc x))
            (λ q off x. let was = s.owned q v u x in
            let away : v ≢ w = λ vw. let y : Some i ≡ Some q = sym had ∙ (ap (held_by b) (sym vw) ∙ was.0) in let iq : i ≡ q = cc y in
            off (sym iq) in
            (index_set_other b.held w v None None away ∙ was.0, omega (arith, was.1, len)))
            k;
      }

  -- at the start
  pub sound_first : (capacity workers : ℕ) (root : J) → 1 ≤ capacity → capacity ≤ capacity_limit
      → IsSound {R = R} 0 (first_board capacity workers root)
  sound_first capacity workers root h1 h2 = grind (arith, common_steps)
