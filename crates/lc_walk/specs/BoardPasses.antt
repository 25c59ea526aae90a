-- The pass of a worker, as a pass of its board.
use Rattle.std.specs.Prelude.{◌≡◌, ◌≢◌, None}
use Rattle.lc_board.specs.Pass.{Pass, holding}
use Rattle.lc_level.specs.Job.{JobModel}
use Rattle.lc_walk.specs.declared.row.Row.{Row}

-- the worker of the pass holds no claim
abbrev pub IsFree : Pass JobModel Row → Type 0
IsFree p = holding p ≡ None

-- the worker of the pass has a claim that is not ended
abbrev pub HoldsClaim : Pass JobModel Row → Type 0
HoldsClaim p = holding p ≢ None

-- the pass belongs to the board, and `IsSo` is true of its events
abbrev pub IsPassOf : {B P : Type 0} → (B → P → Type 0) → (P → Pass JobModel Row) → B → (Pass JobModel Row → Type 0) → P → Type 0
IsPassOf owns view board IsSo p = owns board p × IsSo (view p)
