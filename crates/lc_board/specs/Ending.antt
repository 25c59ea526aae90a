-- How a claim is ended: by a row, or by the row of an error.
use Rattle.std.specs.Prelude.{◌≡◌, ℕ}
use Rattle.lc_board.specs.declared.{event.Event.{Event, TheVariants.{Return, Fault}}, answers.Ended.Ended}
use Rattle.lc_board.specs.declared.answers.Ended.TheVariants.{Returned, Faulted}

-- the event by which a worker ends its claim of a number
abbrev pub end_event : {J R : Type 0} → ℕ → ℕ → Ended R → Event J R
end_event w i (Returned r) = Return w i r
end_event w i (Faulted r) = Fault w i r

-- a claim with this number of posts may end by this row: by the row of an error only if nothing was posted
abbrev pub MayEnd : {R : Type 0} → ℕ → Ended R → Type 0
MayEnd posts (Returned r) = Unit {0}
MayEnd posts (Faulted r) = posts ≡ 0

-- the row, whether it is returned or faulted
abbrev pub row_in : {R : Type 0} → Ended R → R
row_in (Returned r) = r
row_in (Faulted r) = r
