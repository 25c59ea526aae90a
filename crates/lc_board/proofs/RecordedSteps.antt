-- The stored history goes on with each event, and keeps room for the ends.
use Rattle.std.proofs.Common.{◌≡◌, ℕ, zero, suc, ◌≤◌, ◌+◌, List, [], ◌∷◌, ◌++◌, length, slice_set, slice_index_or, replicate, Option, Some}
use Rattle.std.proofs.Common.{None, IfSome, refl, sym, ◌∙◌, ap, subst, arith}
use Rattle.lc_board.specs.{Bare.{BareEvent, bare}, NewestFirst.newest_first, PlainBoard.{Board, Adds}}
use Rattle.lc_board.specs.{RecordedBoard.{held_count, IsRecorded}, declared.event.Event.Event}
use Rattle.lc_board.proofs.{NewestFirst.newest_push, PlainSteps.has_numbers}

-- no more workers hold numbers than there are
pub held_count-most : (hs : List (Option ℕ)) → held_count hs ≤ length hs
held_count-most [] = omega arith
held_count-most (None ∷ hs) = omega (arith, held_count-most hs)
held_count-most (Some i ∷ hs) = omega (arith, held_count-most hs)

-- one that lets go makes it one fewer
pub held_count-freed : (hs : List (Option ℕ)) (w i : ℕ) → slice_index_or hs w None ≡ Some i
    → held_count (slice_set hs w None) + 1 ≡ held_count hs
held_count-freed [] w i e = let x : None ≡ Some i = e in absurd (cc x)
held_count-freed (None ∷ hs) zero i e = absurd (cc e)
held_count-freed (Some k ∷ hs) zero i e = refl
held_count-freed (None ∷ hs) (suc w) i e = held_count-freed hs w i e
held_count-freed (Some k ∷ hs) (suc w) i e = omega (arith, held_count-freed hs w i e)

-- at first none holds any
pub held_count-nobody : (n : ℕ) → held_count (replicate n None) ≡ 0
held_count-nobody zero = refl
held_count-nobody (suc n) = held_count-nobody n

module _ {J R : Type 0} where
  -- an event that the board goes on with is pushed to the stored ones
  pub records : (old new : Board J R) (e : Event J R) (events : List BareEvent) → IsRecorded old (newest_first events) → Adds old e new
      → IsRecorded new (newest_first (events ++ bare e ∷ []))
  records old new e events r a =
      let after = a.goes_on r.root r.events r.after in
      record {
        root = r.root;
        events = e ∷ r.events;
        after = after;
        stored_is = ap (λ t. bare e ∷ t) r.stored_is ∙ sym (newest_push events (bare e));
        numbers = has_numbers r.root (e ∷ r.events) new after;
      }

-- what is said of a number that is there
pub if_some : (o : Option ℕ) (i : ℕ) (P : ℕ → Type 0) → o ≡ Some i → IfSome o P → P i
if_some o i P e x = subst (λ q. IfSome q P) e x
