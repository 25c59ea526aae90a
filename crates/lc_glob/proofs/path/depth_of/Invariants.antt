use Rattle.std.proofs.Common.{◌≡◌, ◌≤◌, ◌+◌, nat_eq, take}
use Rattle.std.specs.List.{count_by}
use Rattle.lc_glob.proofs.path.depth_of.Given as goal

abbrev pub invariant-loop-b : goal.invariant-loop-b
invariant-loop-b l = record {
  count : l.depth ≡ count_by (λ b. nat_eq b 47) (take l.b-index l.path) + 1;
  within : l.depth ≤ l.b-index + 1;
}
