-- What is written to standard error.
use Rattle.std.specs.Prelude.{◌≡◌, ◌⊎◌, ℕ, Bool, true, false, List, Result}
use Rattle.lc_io.specs.{declared.source.Failed.Failed, Writes.{Writes, StopsWriting}}

module _ {E : Type 0} (may_take : E → List ℕ → Result ℕ Failed → E → Type 0) where
  -- standard error gets this text, or a prefix of it if a write fails or takes nothing
  abbrev pub Tells : E → List ℕ → E → Type 0
  Tells err text told = Writes may_take err text told ⊎ StopsWriting may_take err text told

  -- standard error gets this text if the condition holds, and else nothing
  abbrev pub TellsIf : Bool → List ℕ → E → E → Type 0
  TellsIf true text err told = Tells err text told
  TellsIf false text err told = told ≡ err
