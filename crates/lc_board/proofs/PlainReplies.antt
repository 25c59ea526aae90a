-- What each call of the board answers.
use Rattle.std.proofs.Common.{◌≡◌, ◌≢◌, ℕ, zero, suc, ◌<◌, ◌≤◌, ◌+◌, List, [], ◌∷◌, ◌++◌, length, slice_get, slice_set, slice_index_or}
use Rattle.std.proofs.{Common.{Option, Some, None, Ok, IfSome, refl, sym, ◌∙◌, ap, subst, arith}, lemmas.List.length-set}
use Rattle.std.proofs.lemmas.Option.{slice_get_within, slice_get_read}
use Rattle.lc_board.specs.PlainBoard.{Board, held_by, cell_at, IsAfter, Adds, posts_in, posts_by, posts_at}
use Rattle.lc_board.specs.PlainCalls.{IsOpen, IsHeld, IsPending, NoneOpen, NoneHeld, AnswersClaim, AnswersPost}
use Rattle.lc_board.specs.{PlainFields.{IsSound, IsHeldBy}, Ending.{MayEnd, end_event}, declared.event.Event.{Event, TheVariants.Post}}
use Rattle.lc_board.specs.declared.{plain.cell.Cell.{Cell, TheVariants.{Waiting, Held, Done}}, answers.Ended.Ended}
use Rattle.lc_board.specs.declared.answers.Ended.TheVariants as ended
use Rattle.lc_board.specs.declared.answers.Claim.TheVariants as answer
use Rattle.lc_board.proofs.PlainSteps.{after_claim, after_over, after_post, after_return, after_fault, held_is}
use Rattle.lc_board.proofs.PlainSound.{held_cell, cell_inside, free_cells}

-- a worker whose claim is read with a default has it
pub index_some : (hs : List (Option ℕ)) (w k : ℕ) → slice_index_or hs w None ≡ Some k → slice_get hs w ≡ Some (Some k)
index_some [] w k e = let x : None ≡ Some k = e in absurd (cc x)
index_some (h ∷ hs) zero k e = ap Some e
index_some (h ∷ hs) (suc w) k e = index_some hs w k e

-- and the other way round
pub some_index : (hs : List (Option ℕ)) (w k : ℕ) → slice_get hs w ≡ Some (Some k) → slice_index_or hs w None ≡ Some k
some_index [] w k e = absurd (cc e)
some_index (h ∷ hs) zero k e = cc e
some_index (h ∷ hs) (suc w) k e = some_index hs w k e

module _ {J R : Type 0} where
  -- a claim of the lowest waiting number answers Got
  pub claim_got : (m w : ℕ) (j : J) (b : Board J R) → IsSound m b → held_by b w ≡ None → w < length b.held → m < length b.cells
      → cell_at b m ≡ Some (Waiting j)
      → AnswersClaim w b (answer.Got m j) (record {
        capacity = b.capacity;
        held = slice_set b.held w (Some m);
        cells = slice_set b.cells m (Held w 0);
      })
  claim_got m w j b s free low near here =
      let count : length (slice_set b.held w (Some m)) ≡ length b.held = simp length-set in (
        record { here = here; least = s.below },
        record {
          capacity = refl;
          workers = count;
          goes_on = λ root h a. after_claim root h b _ w m j a refl count low (free_cells m b w s free) near here refl;
        },
        refl,
      )

  none_by : (m : ℕ) (b : Board J R) (k : ℕ) (o : Option (Cell J R)) → IsSound m b → length b.cells ≤ m → slice_get b.cells k ≡ o
      → ¬ IsOpen o
  none_by m b k None s full e x = x
  none_by m b k (Some c) s full e x = s.below k (omega (arith, slice_get_within b.cells k c e, full)) (subst IsOpen (sym e) x)

  -- below the mark nothing waits, so past the end nothing does
  pub none_open : (m : ℕ) (b : Board J R) → IsSound m b → length b.cells ≤ m → NoneOpen b
  none_open m b s full k = none_by m b k (slice_get b.cells k) s full refl

  held_by_some : (o : Option (Cell J R)) (w : ℕ) → IsHeldBy w o → IsHeld o
  held_by_some o w h = let c = held_cell w o h in held_is o w c.0 c.1

  -- a worker that holds a number holds its cell
  pub some_held : (m : ℕ) (b : Board J R) → IsSound m b → ((w i : ℕ) × (slice_get b.held w ≡ Some (Some i)))
      → (k : ℕ) × IsHeld (cell_at b k)
  some_held m b s x = (x.1, held_by_some (cell_at b x.1) x.0 (s.holds x.0 x.1 (some_index b.held x.0 x.1 x.2)))

  none_held_by : (m : ℕ) (b : Board J R) (k : ℕ) (o : Option (Cell J R)) → IsSound m b
      → ((w i : ℕ) → slice_get b.held w ≢ Some (Some i)) → slice_get b.cells k ≡ o → ¬ IsHeld o
  none_held_by m b k (Some (Held w n)) s free e x = free w k (index_some b.held w k (s.owned k w n e).0)
  none_held_by m b k _ s free e x = x

  -- where no worker holds a number no cell is held
  pub none_held : (m : ℕ) (b : Board J R) → IsSound m b → ((w i : ℕ) → slice_get b.held w ≢ Some (Some i)) → NoneHeld b
  none_held m b s free k = none_held_by m b k (slice_get b.cells k) s free refl

  -- a claim with nothing waiting and nothing held answers Over
  pub claim_over : (m w : ℕ) (b : Board J R) → IsSound m b → w < length b.held → length b.cells ≤ m
      → ((w i : ℕ) → slice_get b.held w ≢ Some (Some i)) → AnswersClaim w b answer.Over b
  claim_over m w b s low full free =
      let none = none_open m b s full in
      let idle = none_held m b s free in
      (none, idle, record { capacity = refl; workers = refl; goes_on = λ root h a. after_over root h b w a low none idle }, refl)

  -- the claim that a worker holds
  pub held_here : (m w i : ℕ) (b : Board J R) → IsSound m b → held_by b w ≡ Some i
      → (n : ℕ) × (cell_at b i ≡ Some (Held w n)) × (i < length b.cells) × (n < length b.cells)
  held_here m w i b s had =
      let c = held_cell w (cell_at b i) (s.holds w i had) in
      (c.0, c.1, cell_inside b.cells i (Held w c.0) c.1, (s.owned i w c.0 c.1).1)

  -- a post under a claim, with a number left, answers it
  pub post_ok : (m w p n : ℕ) (j : J) (b : Board J R) → IsSound m b → held_by b w ≡ Some p → w < length b.held
      → length b.cells < b.capacity → cell_at b p ≡ Some (Held w n)
      → AnswersPost w b j (Ok (length b.cells)) (record {
        capacity = b.capacity;
        held = b.held;
        cells = slice_set b.cells p
            (Held w (n + 1)) ++ Waiting j ∷ [];
      })
  post_ok m w p n j b s had low room here =
      let new : Board J R = record {
        capacity = b.capacity;
        held = b.held;
        cells = slice_set b.cells p (Held w (n + 1))
            ++ Waiting j ∷ [];
      } in
      let adds : Adds b (Post w p (length b.cells) j) new = record {
        capacity = refl;
        workers = refl;
        goes_on = λ root h a. after_post root h b new w p n j a refl refl low (cell_inside b.cells p (Held w n) here) room here refl;
      } in
      (refl, subst (λ o. IfSome o (λ q. Adds b (Post w q (length b.cells) j) new)) (sym had) adds, refl)

  -- the board after the end of a claim
  abbrev ended_board : ℕ → ℕ → Ended R → Board J R → Board J R
  ended_board w i e b = record { capacity = b.capacity; held = slice_set b.held w None; cells = slice_set b.cells i (Done e) }

  ended_after : (m w i : ℕ) (e : Ended R) (b : Board J R) → IsSound m b → held_by b w ≡ Some i → w < length b.held → MayEnd (posts_by b w) e
      → (root : J) (h : List (Event J R)) → IsAfter root h b → IsAfter root (end_event w i e ∷ h) (ended_board w i e b)
  ended_after m w i (ended.Returned r) b s had low may root h a =
      let here = held_here m w i b s had in
      after_return root h b (ended_board w i (ended.Returned r) b) w i here.0 r a refl (length-set b.held w None) low here.2 here.1 refl
  ended_after m w i (ended.Faulted r) b s had low may root h a =
      let here = held_here m w i b s had in
      let few : posts_in (cell_at b i) ≡ 0 = subst (λ o. posts_at b o ≡ 0) had may in
      let zero_posts : here.0 ≡ 0 = sym (ap posts_in here.1) ∙ few in
      let fresh : cell_at b i ≡ Some (Held w 0) = here.1 ∙ ap (λ n. Some (Held w n)) zero_posts in
      after_fault root h b (ended_board w i (ended.Faulted r) b) w i r a refl (length-set b.held w None) low here.2 fresh refl

  -- an end of a claim adds its event
  pub end_ok : (m w i : ℕ) (e : Ended R) (b : Board J R) → IsSound m b → held_by b w ≡ Some i → w < length b.held → MayEnd (posts_by b w) e
      → IfSome (held_by b w) (λ q. Adds b (end_event w q e)
      (record { capacity = b.capacity; held = slice_set b.held w None; cells = slice_set b.cells i (Done e) }))
  end_ok m w i e b s had low may =
      let adds : Adds b (end_event w i e) (ended_board w i e b) = record {
        capacity = refl;
        workers = length-set b.held w None;
        goes_on = ended_after m w i e b s had low may;
      } in
      subst (λ o. IfSome o (λ q. Adds b (end_event w q e) (ended_board w i e b))) (sym had) adds

  -- what a place of a list is read as
  pub read : (xs : List (Cell J R)) (i : ℕ) (x : Cell J R) → i < length xs → x ≡ slice_index_or xs i x → slice_get xs i ≡ Some x
  read xs i x low e = slice_get_read xs (length xs) i x refl low e

-- a claim that was read is the worker's, whatever the default
pub holder : (hs : List (Option ℕ)) (w : ℕ) (o : Option ℕ) (k : ℕ) → w < length hs → o ≡ slice_index_or hs w o → o ≡ Some k
    → slice_index_or hs w None ≡ Some k
holder [] w o k low e s = absurd (omega (arith, low))
holder (h ∷ hs) zero o k low e s = sym e ∙ s
holder (h ∷ hs) (suc w) o k low e s = holder hs w o k (omega (arith, low)) e s

module _ {J R : Type 0} where
  -- a cell that is left lies on the board
  pub left_inside : (xs : List (Cell J R)) (k : ℕ) → IsPending (slice_get xs k) → k < length xs
  left_inside [] k x = absurd x
  left_inside (c ∷ xs) zero x = omega arith
  left_inside (c ∷ xs) (suc k) x = omega (arith, left_inside xs k x)

  left_open : (o : Option (Cell J R)) → IsOpen o → IsPending o
  left_open (Some (Waiting j)) x = tt
  left_open _ x = absurd x

  left_held : (o : Option (Cell J R)) → IsHeld o → IsPending o
  left_held (Some (Held w n)) x = tt
  left_held _ x = absurd x

  -- a number from the mark on is left
  pub some_left : (m : ℕ) (b : Board J R) → IsSound m b → m < length b.cells → (k : ℕ) × IsPending (cell_at b k)
  some_left m b s less = (m, left_open (cell_at b m) (s.above m (omega arith) less))

  -- a held number is left
  pub held_left : (m : ℕ) (b : Board J R) → IsSound m b → ((w i : ℕ) × (slice_get b.held w ≡ Some (Some i)))
      → (k : ℕ) × IsPending (cell_at b k)
  held_left m b s x = let h = some_held m b s x in (h.0, left_held (cell_at b h.0) h.1)

  abbrev held_as : ℕ → ℕ → Cell J R
  held_as w n = Held w n

  -- two counts of one claim are the same after one post more
  pub count_same : (w n v m : ℕ) → Some (held_as w n) ≡ Some (held_as v m) → held_as w (n + 1) ≡ held_as v (m + 1)
  count_same w n v m e = let a : w ≡ v = cc e in let b : n ≡ m = cc e in ap (λ x. held_as x (n + 1)) a ∙ ap (λ x. held_as v (x + 1)) b
