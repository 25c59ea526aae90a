use Rattle.std.proofs.Common.{◌≡◌, ◌*◌, ◌≤◌, List, ℕ, length}
use Rattle.std.specs.List.{concat}
use Rattle.lc_census.specs.Fed.{LeadTo}
use Rattle.lc_io.specs.Reads.{Reads, RoomOf, at_neither}
use Rattle.lc_census.proofs.counting.count_source.Given as goal

abbrev pub invariant-loop-turn : goal.invariant-loop-turn
invariant-loop-turn g l =
    (pieces : List (List ℕ)) × Reads g.S.Source.may_give (RoomOf (length l.initial.buffer)) l.initial.reader pieces at_neither l.reader
    × (length pieces ≡ l._turn) × LeadTo (concat pieces) l.census × (l.census.bytes ≤ l._turn * 65536)
