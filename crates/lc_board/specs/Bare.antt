-- An event without its job or row. Whether an event is allowed depends only on its worker and its numbers.
use Rattle.lc_board.specs.declared.event.Event.{Event, TheVariants.{Post, Claim, Return, Fault, Over}}

abbrev pub BareEvent : Type 0
BareEvent = Event (Unit {0}) (Unit {0})

module _ {J R : Type 0} where
  abbrev pub bare : Event J R → BareEvent
  bare (Post w p i j) = Post w p i tt
  bare (Claim w i j) = Claim w i tt
  bare (Return w i r) = Return w i tt
  bare (Fault w i r) = Fault w i tt
  bare (Over w) = Over w
