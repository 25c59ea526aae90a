-- Short histories, on which the definitions are computed.
use Rattle.std.specs.Prelude.{◌≡◌, ℕ, List, [], ◌∷◌, Some}
use Rattle.lc_board.specs.{LegalHistory.{IsLegal, IsOver, posts_under}, Part.part, Holding.{holding, posted, job_held, posts_held}}
use Rattle.lc_board.specs.{RowsInPlace.InPlace, Numbers.HasNumbers, declared.event.Event.Event}
use Rattle.lc_board.specs.declared.{event.Event.TheVariants.{Post, Claim, Return, Fault, Over}, answers.Ended.Ended}
use Rattle.lc_board.specs.declared.answers.Ended.TheVariants as ended

abbrev pub Script : Type 0
Script = List (Event ℕ ℕ)

-- Two workers on a board of two numbers; the root's job is 7. Worker 0 claims it, posts the job 9, which worker 1 gets, and gives the
-- number 10 as its row; worker 1 gives 11; both find that the board is over. Newest first.
abbrev pub two_workers : Script
two_workers = Over 1 ∷ Over 0 ∷ Return 1 1 11 ∷ Return 0 0 10 ∷ Claim 1 1 9 ∷ Post 0 0 1 9 ∷ Claim 0 0 7 ∷ []

-- One worker, which reads back what it posted: it claims the root, posts, gives, and claims the number that it posted.
abbrev pub own_post : Script
own_post = Claim 0 1 9 ∷ Return 0 0 10 ∷ Post 0 0 1 9 ∷ Claim 0 0 7 ∷ []

-- One worker that ends its claim of the root by the row of an error.
abbrev pub one_fault : Script
one_fault = Over 0 ∷ Fault 0 0 10 ∷ Claim 0 0 7 ∷ []

-- One worker that has posted two jobs under its claim.
abbrev pub posting : Script
posting = Post 0 0 2 8 ∷ Post 0 0 1 9 ∷ Claim 0 0 7 ∷ []

-- Three histories that are not legal: the root is claimed twice; a claim under which something was posted is ended by an error; the number
-- 1 is posted on a board whose only number is 0.
abbrev pub second_claim : Script
second_claim = Claim 1 0 7 ∷ Claim 0 0 7 ∷ []

abbrev pub late_fault : Script
late_fault = Fault 0 0 10 ∷ Post 0 0 1 9 ∷ Claim 0 0 7 ∷ []

abbrev pub number_beyond : Script
number_beyond = Post 0 0 1 9 ∷ Claim 0 0 7 ∷ []

abbrev pub two_rows : List (Ended ℕ)
two_rows = ended.Returned 10 ∷ ended.Returned 11 ∷ []

abbrev pub fault_row : List (Ended ℕ)
fault_row = ended.Faulted 10 ∷ []

abbrev pub part_of_first : Script
part_of_first = Over 0 ∷ Return 0 0 10 ∷ Post 0 0 1 9 ∷ Claim 0 0 7 ∷ []

abbrev pub part_of_second : Script
part_of_second = Over 1 ∷ Return 1 1 11 ∷ Claim 1 1 9 ∷ []

abbrev pub posts_of_first : List (ℕ × ℕ)
posts_of_first = (1, 9) ∷ []

abbrev pub posts_of_posting : List (ℕ × ℕ)
posts_of_posting = (1, 9) ∷ (2, 8) ∷ []

-- what the definitions say about these histories
pub record ScriptsAreLegal : Type 0 where
  pub two_legal : IsLegal 2 2 two_workers
  pub two_over : IsOver two_workers
  pub two_numbers : HasNumbers 2 two_workers
  pub two_parts : (part 0 two_workers ≡ part_of_first) × (part 1 two_workers ≡ part_of_second)
  pub two_posts : posts_under 0 two_workers ≡ posts_of_first
  pub two_placed : InPlace {J = ℕ} {R = ℕ} 7 two_workers two_rows
  pub own_legal : IsLegal 2 1 own_post
  pub own_holding : (holding own_post ≡ Some 1) × (posted own_post ≡ 0)
  pub own_held : (job_held own_post ≡ Some 9) × (posts_held own_post ≡ [])
  pub posting_held : (job_held posting ≡ Some 7) × (posts_held posting ≡ posts_of_posting)
      × (posts_under 0 posting ≡ posts_of_posting)
  pub fault_legal : IsLegal 1 1 one_fault
  pub fault_placed : InPlace {J = ℕ} {R = ℕ} 7 one_fault fault_row
  pub no_second_claim : ¬ IsLegal 2 2 second_claim
  pub no_late_fault : ¬ IsLegal 2 1 late_fault
  pub no_number_beyond : ¬ IsLegal 1 1 number_beyond
