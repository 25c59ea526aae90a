-- A comparison of the stored history with the events that a pass has stored.
use Rattle.std.specs.{Prelude.{◌≡◌, ℕ, List, map}, declared.snapshot.Snapshot.Snapshot}
use Rattle.lc_board.specs.{Part.part, Bare.{BareEvent, bare}, NewestFirst.newest_first, Notes.mine_of, declared.event.Event.Event}

-- the worker's events in the history are the noted events, without their jobs and rows
abbrev pub IsSame : {J R : Type 0} → ℕ → List BareEvent → List (Event (Snapshot J) (Snapshot R)) → Type 0
IsSame by events notes = part by (newest_first events) ≡ map bare (mine_of notes)
