-- What one step along a segment found.
use Rattle.std.specs.Prelude.{ℕ, ◌+◌, ◌*◌, length, true, false, ◌≡◌, List, [], ◌∷◌, ◌++◌, Option, Some, None, IsTrue}
use Rattle.lc_glob.specs.{Tokens.{TokenModel, takes, is_star}, Fits.Fits, declared.cursor.{Cursor.Cursor, FrontStep.FrontStep}}
use Rattle.lc_glob.specs.declared.cursor.EndStep.{EndStep}
use Rattle.lc_glob.specs.declared.cursor.FrontStep.TheVariants as front
use Rattle.lc_glob.specs.declared.cursor.EndStep.TheVariants as end

module _ {A : Type 0} (tokens_in : List A → List TokenModel) where
  -- the tokens of a cursor fit what is left of the segment
  abbrev pub FitsAt : Cursor A → Type 0
  FitsAt cursor = Fits (tokens_in cursor.tokens.now) cursor.segment.bytes.now

  -- the greatest number of byte tests from a cursor on
  abbrev pub cost_at : Cursor A → ℕ
  cost_at cursor = length cursor.segment.bytes.now * (length (tokens_in cursor.tokens.now) + 1) + length (tokens_in cursor.tokens.now)

  -- what a step from the end found: a star, of which nothing is stated; or the last token stands for the last byte, and what is before both
  -- is left; or the tokens fit the segment, or don't
  abbrev pub EndStepIs : EndStep A → List TokenModel → List ℕ → Type 0
  EndStepIs end.Star tokens segment = Unit {0}
  EndStepIs (end.Taken before) tokens segment = (u : TokenModel) × (x : ℕ) × (tokens ≡ tokens_in before.tokens.now ++ u ∷ [])
      × (segment ≡ before.segment.bytes.now ++ x ∷ []) × (is_star u ≡ false) × IsTrue (takes u x)
  EndStepIs end.Fitted tokens segment = Fits tokens segment
  EndStepIs end.Stuck tokens segment = Fits tokens segment → ⊥

  -- the greatest number of byte tests after a step from the end, where `all` is the greatest number before the step
  abbrev pub cost_after : EndStep A → ℕ → ℕ
  cost_after end.Star all = all
  cost_after (end.Taken before) all = cost_at before
  cost_after end.Fitted all = 0
  cost_after end.Stuck all = 0

  -- what a step from the front found: the first token is a star, and what is after it is left; or it stands for the first byte, and what is
  -- after both is left; or the tokens fit the segment, or don't
  abbrev pub FrontStepIs : FrontStep A → List TokenModel → List ℕ → Type 0
  FrontStepIs (front.Star rest) tokens segment = (u : TokenModel) × (tokens ≡ u ∷ tokens_in rest.now) × (is_star u ≡ true)
  FrontStepIs (front.Taken after) tokens segment = (u : TokenModel) × (x : ℕ) × (tokens ≡ u ∷ tokens_in after.tokens.now)
      × (segment ≡ x ∷ after.segment.bytes.now) × (is_star u ≡ false) × IsTrue (takes u x)
  FrontStepIs front.Fitted tokens segment = Fits tokens segment
  FrontStepIs front.Stuck tokens segment = Fits tokens segment → ⊥

-- the next cursor has the same tokens, and one byte of the segment less; None if no byte is left
abbrev pub RetryIs : {A : Type 0} → Cursor A → Option (Cursor A) → Type 0
RetryIs here None = here.segment.bytes.now ≡ []
RetryIs here (Some next) = (x : ℕ) × (here.segment.bytes.now ≡ x ∷ next.segment.bytes.now) × (next.tokens ≡ here.tokens)
