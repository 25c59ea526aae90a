use Rattle.std.proofs.Common.{◌≡◌, length, map}
use Rattle.std.specs.Cmp.Lexicographic.{slice_cmp}
use Rattle.lc_level.specs.FileAttributes.{owned_state}
use Rattle.lc_rows.specs.RowKeys.{state_cmp}
use Rattle.lc_rows.proofs.states.compare_states.Given as goal

abbrev pub invariant-states : goal.invariant-states
invariant-states l =
    slice_cmp state_cmp (map owned_state l.initial.a) (map owned_state l.initial.b)
    ≡ slice_cmp state_cmp (map owned_state l.a) (map owned_state l.b)

abbrev pub decreases-states : goal.decreases-states
decreases-states l = length l.a
