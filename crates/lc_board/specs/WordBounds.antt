-- How many steps the calls on a board of words take on each word.
use Rattle.std.specs.Prelude.{◌≡◌, ◌≢◌, ℕ, ◌+◌, ◌≤◌, ◌==◌, ◌⊎◌, cond, List, ◌++◌, Result, Ok, Err, count_by}
use Rattle.lc_board.specs.{State.{Open, status}, Growth.{GoesOn, IsTaken}, LegalHistory.IsLegal, WordSteps.TakesStep}
use Rattle.lc_board.specs.declared.{answers.PostFault.PostFault, event.Event.Event, words.view.View.View}

module _ {J R : Type 0} where
  -- the pass has taken steps, in which P k n holds for each number k, if n of the steps are on the word of k
  abbrev pub TakesSteps : (ℕ → ℕ → Type 0) → View J R → View J R → Type 0
  TakesSteps P v w = (added : List ℕ) × (w.steps ≡ added ++ v.steps) × ((k : ℕ) → P k (count_by (λ i. i == k) added))

  -- at most m steps, all on the word of the number i
  abbrev pub StepsOn : ℕ → ℕ → View J R → View J R → Type 0
  StepsOn m i v w = TakesSteps (λ k n. (n ≤ m) × (k ≢ i → n ≡ 0)) v w

  -- the number k is open after some legal history that goes on from what the pass has seen
  abbrev pub MeetsOpen : ℕ → View J R → ℕ → Type 0
  MeetsOpen cap v k = (workers : ℕ) × (h : List (Event J R)) × IsLegal cap workers h × GoesOn h v.seen × (status h k ≡ Open)

  -- at most two steps on the word of the number k, and two only if k is found open
  abbrev pub IsVisited : ℕ → View J R → ℕ → ℕ → Type 0
  IsVisited cap v k n = (n ≤ 2) × (2 ≤ n → MeetsOpen cap v k)

  -- the steps of a try to claim a number that the pass has posted: none, or one on the word of a number that is taken after the step
  abbrev pub TriesNewest : View J R → View J R → Type 0
  TriesNewest v w = (w.steps ≡ v.steps) ⊎ ((i : ℕ) × TakesStep i v w × IsTaken (status w.seen i))

  -- the steps of a try to post at the number i: at most m, and if i is posted one more
  abbrev pub PostSteps : ℕ → ℕ → Result ℕ J → View J R → View J R → Type 0
  PostSteps m i (Ok n) v w = (n ≡ i) × StepsOn (m + 1) i v w
  PostSteps m i (Err j) v w = StepsOn m i v w

-- the most steps of a post on the word of the number k: three if k is posted, otherwise two
abbrev pub most_in_post : {J : Type 0} → Result ℕ (PostFault J) → ℕ → ℕ
most_in_post (Ok i) k = cond (k == i) 3 2
most_in_post (Err fault) k = 2
