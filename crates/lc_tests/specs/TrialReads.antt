-- What the readers for tests give.
use Rattle.std.specs.Prelude.{◌≡◌, ◌≢◌, ℕ, ◌+◌, ◌-◌, ◌^◌, min, max, List, [], take, drop}
use Rattle.lc_io.specs.Reads.{Answer, gave, failed}

-- the first bytes that are left, as many as the buffer holds, or a failure where none is left
abbrev pub GivesThenFails : List ℕ → ℕ → Answer → List ℕ → Type 0
GivesThenFails old room (gave piece) new = (old ≢ []) × (piece ≡ take room old) × (new ≡ drop room old)
GivesThenFails old room failed new = (old ≡ []) × (new ≡ [])

-- the counts after one more read, into a buffer of this length
abbrev pub CountsRead : ℕ → ℕ → ℕ → ℕ → ℕ → Type 0
CountsRead room reads longest reads' longest' = (reads' ≡ min (reads + 1) (2 ^ 64 - 1)) × (longest' ≡ max longest room)
