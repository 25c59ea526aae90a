-- The last event of a stored history against the last note of a pass.
use Rattle.std.proofs.Common.{◌≡◌, ◌≢◌, ℕ, List, [], ◌∷◌, ◌++◌, map, sym, ◌∙◌, ap}
use Rattle.std.specs.declared.snapshot.Snapshot.{Snapshot}
use Rattle.lc_board.specs.{Part.{part, worker_of}, Bare.{BareEvent, bare}, Notes.{valued, mine_of}, NewestFirst.newest_first}
use Rattle.lc_board.specs.{ComparedPass.IsSame, declared.event.Event.Event}
use Rattle.lc_board.proofs.{Places.at_same, NewestFirst.{newest_push, mine_push}}

-- the worker's own last event is the newest of its part
own_last : (w : ℕ) (before : List BareEvent) (e : BareEvent) → worker_of e ≡ w
    → part w (newest_first (before ++ e ∷ [])) ≡ e ∷ part w (newest_first before)
own_last w before e is =
    ap (part w) (newest_push before e) ∙ at_same (worker_of e) w (e ∷ part w (newest_first before)) (part w (newest_first before)) is

-- an event of a worker that its pass doesn't have
pub not_noted : (w : ℕ) (before : List BareEvent) (e : BareEvent) → worker_of e ≡ w → part w (newest_first (before ++ e ∷ [])) ≢ []
not_noted w before e is same = let x : e ∷ part w (newest_first before) ≡ [] = sym (own_last w before e is) ∙ same in absurd (cc x)

module _ {J R : Type 0} where
  -- a last event that a pass has otherwise
  pub noted_otherwise : (w : ℕ) (before : List BareEvent) (e : BareEvent) (earlier : List (Event (Snapshot J) (Snapshot R)))
      (n : Event (Snapshot J) (Snapshot R)) → worker_of e ≡ w → bare (valued n) ≢ e
      → ¬ IsSame w (before ++ e ∷ []) (earlier ++ n ∷ [])
  noted_otherwise w before e earlier n is other same =
      let x : e ∷ part w (newest_first before) ≡ bare (valued n) ∷ map bare (mine_of earlier) = sym (own_last w before e is)
      ∙ (same ∙ ap (map bare) (mine_push earlier n)) in
      let y : e ≡ bare (valued n) = cc x in
      other (sym y)
