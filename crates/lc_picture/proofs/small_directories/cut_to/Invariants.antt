use Rattle.std.proofs.Common.{◌≡◌, ◌≤◌, ◌-◌, ℕ, nat_le, if◌then◌else◌, get_or, length}
use Rattle.lc_picture.specs.Small.{no_directories}
use Rattle.lc_picture.proofs.small_directories.cut_to.Given as goal

abbrev pub invariant-levels : goal.invariant-levels
invariant-levels l = record {
  each : (depth : ℕ) → get_or l.pending.items depth no_directories
      ≡ (if nat_le l.level depth then no_directories else get_or l.fn.pending.items depth no_directories);
  short : length l.pending.items ≤ l.level;
}

abbrev pub decreases-levels : goal.decreases-levels
decreases-levels l = l.level - length l.pending.items
