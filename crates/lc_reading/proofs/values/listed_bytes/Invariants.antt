use Rattle.std.proofs.Common.{◌≡◌, ◌-◌, ◌≤◌, ◌++◌, drop, length, map, decimal}
use Rattle.json.specs.Json.{number}
use Rattle.lc_reading.specs.Members.{values_of}
use Rattle.lc_reading.proofs.values.listed_bytes.Given as goal

abbrev pub invariant-values : goal.invariant-values
invariant-values l = (l.at ≤ length l.values) × (values_of l.values ≡ map (λ b. number (decimal b)) l.bytes.items ++ values_of (drop l.at
    l.values))

abbrev pub decreases-values : goal.decreases-values
decreases-values l = length l.values - l.at
