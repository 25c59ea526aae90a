-- What contracts say of a board of words, its passes, and what the passes have seen.
use Rattle.std.specs.Prelude.{◌≡◌, ◌+◌, ℕ, false, Option, Some, None, IfSome, Result, Ok, Err}
use Rattle.lc_board.specs.{Pass.Pass, Ending.end_event, WordCode.is_open, WordSteps.{AddsEvent, ExtendsFairly, HasLooked, Extends, Waits}}
use Rattle.lc_board.specs.declared.{answers.{Claim.Claim, Ended.Ended, PostFault.PostFault}, words.{coding.Word.Word, view.View.View}}
use Rattle.lc_board.specs.declared.words.{pass.WordsPass.WordsPass, Words.Words}
use Rattle.lc_board.specs.declared.event.Event.TheVariants as event
use Rattle.lc_board.specs.declared.answers.Claim.TheVariants as answer
use Rattle.lc_board.specs.declared.answers.PostFault.TheVariants as refusal

module _ {J R : Type 0} where
  -- the pass belongs to this board
  abbrev pub IsPassOf : Words J R → WordsPass J R → Type 0
  IsPassOf b p = p.seat.table_id ≡ b.table.shared.table_id

  -- what the pass knows
  abbrev pub known : WordsPass J R → View J R
  known p = p.seat.me.0

  -- what contracts of `Shared` see of the pass
  abbrev pub told : WordsPass J R → Pass J R
  told p = record { worker = p.worker; mine = p.seat.me.0.mine; full = p.full; refused = false }

  -- what the pass knows of the board's start
  abbrev pub KnowsStart : Words J R → WordsPass J R → Type 0
  KnowsStart b p = ((known p).workers ≡ b.workers) × ((known p).root ≡ Some b.table.shared.key.root.value)

  -- the pass belongs to this board, and knows the board's start
  abbrev pub Owns : Words J R → WordsPass J R → Type 0
  Owns b p = IsPassOf b p × KnowsStart b p

  -- the pass belongs to this board and this worker, has claimed nothing, and knows v
  abbrev pub IsNewPass : Words J R → ℕ → View J R → WordsPass J R → Type 0
  IsNewPass b w v p = IsPassOf b p × (p.worker ≡ w) × (p.holding ≡ None) × (p.full ≡ false) × (known p ≡ v)

  -- the same pass of the same board
  abbrev pub IsSamePass : WordsPass J R → WordsPass J R → Type 0
  IsSamePass old new =
      (new.seat.table_id ≡ old.seat.table_id) × (new.worker ≡ old.worker) × (new.full ≡ old.full)
      × ((known new).workers ≡ (known old).workers) × ((known new).root ≡ (known old).root)

  -- what a claim returns: Got and Over add their event; Later means that another worker had a claim meanwhile; Memory is never returned
  abbrev pub AnswersWordsClaim : ℕ → View J R → View J R → Option ℕ → Claim J → Type 0
  AnswersWordsClaim cap v w holding (answer.Got i j) = (holding ≡ Some i) × AddsEvent cap v (event.Claim v.worker i j) w
  AnswersWordsClaim cap v w holding answer.Later = (holding ≡ None) × Waits cap v w
  AnswersWordsClaim cap v w holding answer.Over = (holding ≡ None) × AddsEvent cap v (event.Over v.worker) w
  AnswersWordsClaim cap v w holding answer.Memory = ⊥

  -- what a try to claim a number returns: its job; or otherwise its word, which is not open
  abbrev pub TriesClaim : Words J R → ℕ → WordsPass J R → Result J Word → WordsPass J R → Type 0
  TriesClaim b i old (Ok j) new = (new.holding ≡ Some i)
      × AddsEvent b.capacity (known old) (event.Claim (known old).worker i j) (known new)
  TriesClaim b i old (Err x) new = (new.holding ≡ None) × (is_open x ≡ false) × HasLooked b.capacity i x (known old) (known new)

  -- under the claim that it has, the pass has posted the number with this job
  abbrev pub HasPosted : Words J R → WordsPass J R → ℕ → J → WordsPass J R → Type 0
  HasPosted b old i j new = IfSome old.holding
      (λ p. AddsEvent b.capacity (known old) (event.Post old.worker p i j) (known new))

  -- what a try to post returns: the number; or otherwise the job
  abbrev pub TriesPost : Words J R → WordsPass J R → J → Result ℕ J → WordsPass J R → Type 0
  TriesPost b old job (Ok i) new = (new.posted ≡ old.posted + 1) × HasPosted b old i job new
  TriesPost b old job (Err j) new = (j ≡ job) × (new.posted ≡ old.posted) × ExtendsFairly b.capacity (known old) (known new)

  -- what a post returns: the number; or otherwise Full with the job, if no number is left; Memory is never returned
  abbrev pub AnswersWordsPost : Words J R → WordsPass J R → J → Result ℕ (PostFault J) → WordsPass J R → Type 0
  AnswersWordsPost b old job (Ok i) new = (new.posted ≡ old.posted + 1) × HasPosted b old i job new
  AnswersWordsPost b old job (Err (refusal.Full j)) new = (j ≡ job) × (new.posted ≡ old.posted)
      × Extends (known old) (known new) × ((known new).front ≡ b.capacity)
  AnswersWordsPost b old job (Err (refusal.Memory j)) new = ⊥

  -- the pass has ended its claim by this row
  abbrev pub EndsClaim : Words J R → WordsPass J R → Ended R → WordsPass J R → Type 0
  EndsClaim b old e new = IfSome old.holding
      (λ i. AddsEvent b.capacity (known old) (end_event old.worker i e) (known new))
