-- What a pass of the locked board has stored, as contracts see it.
use Rattle.std.specs.{Prelude.{List, map}, declared.snapshot.Snapshot.Snapshot}
use Rattle.lc_board.specs.{NewestFirst.newest_first, declared.event.Event.{Event, TheVariants.{Post, Claim, Return, Fault, Over}}}

module _ {J R : Type 0} where
  -- the event with the job or the row that its snapshot remembers
  abbrev pub valued : Event (Snapshot J) (Snapshot R) → Event J R
  valued (Post w p i j) = Post w p i j.value
  valued (Claim w i j) = Claim w i j.value
  valued (Return w i r) = Return w i r.value
  valued (Fault w i r) = Fault w i r.value
  valued (Over w) = Over w

  -- the events of a pass, newest first
  abbrev pub mine_of : List (Event (Snapshot J) (Snapshot R)) → List (Event J R)
  mine_of notes = map valued (newest_first notes)
