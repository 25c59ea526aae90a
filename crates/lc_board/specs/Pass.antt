-- What contracts see of a worker's pass, and what each call adds to it.
use Rattle.std.specs.Prelude.{ℕ, Bool, true, false, Option, Some, None, Result, Ok, Err, List, [], ◌∷◌}
use Rattle.lc_board.specs.Holding as events
use Rattle.lc_board.specs.declared.{event.Event.Event, answers.{Claim.Claim, PostFault.PostFault}}
use Rattle.lc_board.specs.declared.event.Event.TheVariants as event
use Rattle.lc_board.specs.declared.answers.Claim.TheVariants as answer
use Rattle.lc_board.specs.declared.answers.PostFault.TheVariants as refusal

-- a pass: its worker, the worker's events with the newest first, whether a post returned Full, and whether a claim returned Memory
pub record Pass (J R : Type 0) : Type 0 where
  pub worker : ℕ
  pub mine : List (Event J R)
  pub full : Bool
  pub refused : Bool

-- the number, or 0 if there is none
abbrev pub number_or_0 : Option ℕ → ℕ
number_or_0 None = 0
number_or_0 (Some i) = i

abbrev pub job_back : {J : Type 0} → PostFault J → J
job_back (refusal.Full j) = j
job_back (refusal.Memory j) = j

module _ {J R : Type 0} where
  -- the number that the worker has claimed and not ended
  abbrev pub holding : Pass J R → Option ℕ
  holding p = events.holding p.mine

  -- how many jobs the worker has posted under its present claim
  abbrev pub posted : Pass J R → ℕ
  posted p = events.posted p.mine

  abbrev pub held_number : Pass J R → ℕ
  held_number p = number_or_0 (holding p)

  -- a pass that has done nothing
  abbrev pub new_pass : ℕ → Pass J R
  new_pass w = record { worker = w; mine = []; full = false; refused = false }

  abbrev pub adding : Pass J R → Event J R → Pass J R
  adding p e = record { worker = p.worker; mine = e ∷ p.mine; full = p.full; refused = p.refused }

  abbrev pub filled : Pass J R → Pass J R
  filled p = record { worker = p.worker; mine = p.mine; full = true; refused = p.refused }

  abbrev pub refusing : Pass J R → Pass J R
  refusing p = record { worker = p.worker; mine = p.mine; full = p.full; refused = true }

  -- the pass after a claim: Got and Over add an event, Later and Memory add none
  abbrev pub after_claim : Pass J R → Claim J → Pass J R
  after_claim p (answer.Got i j) = adding p (event.Claim p.worker i j)
  after_claim p answer.Later = p
  after_claim p answer.Over = adding p (event.Over p.worker)
  after_claim p answer.Memory = refusing p

  -- the pass after a post: a number adds an event, Full and Memory add none
  abbrev pub after_post : Pass J R → J → Result ℕ (PostFault J) → Pass J R
  after_post p j (Ok i) = adding p (event.Post p.worker (held_number p) i j)
  after_post p j (Err (refusal.Full k)) = filled p
  after_post p j (Err (refusal.Memory k)) = p

  abbrev pub after_give : Pass J R → R → Pass J R
  after_give p r = adding p (event.Return p.worker (held_number p) r)

  abbrev pub after_fault : Pass J R → R → Pass J R
  after_fault p r = adding p (event.Fault p.worker (held_number p) r)
