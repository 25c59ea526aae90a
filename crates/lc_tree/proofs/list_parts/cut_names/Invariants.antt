-- The names that are left, and the parts behind them, from the last one back.
use Rattle.std.proofs.Common.{◌≡◌, ◌++◌, ◌≤◌, ◌-◌, reverse}
use Rattle.std.specs.Prelude.{vec_len}
use Rattle.lc_tree.specs.Parts.{all_of}
use Rattle.lc_tree.proofs.list_parts.cut_names.Given as goal

abbrev pub invariant-parts : goal.invariant-parts
invariant-parts l =
    (l.names.items ++ all_of (reverse l.parts.items) ≡ l.initial.names.items) × (vec_len l.parts ≤ l.helpers)

abbrev pub decreases-parts : goal.decreases-parts
decreases-parts l = l.helpers - vec_len l.parts
