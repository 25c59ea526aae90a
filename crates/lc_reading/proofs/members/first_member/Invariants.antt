use Rattle.std.proofs.Common.{◌≡◌, ◌-◌, ◌≤◌, drop, length}
use Rattle.lc_reading.specs.Members.{members_of, values_at}
use Rattle.lc_reading.proofs.members.first_member.Given as goal

abbrev pub invariant-members : goal.invariant-members
invariant-members l = (l.at ≤ length l.members) × (values_at l.name (members_of (drop l.at l.members)) ≡ values_at l.name (members_of
    l.members))

abbrev pub decreases-members : goal.decreases-members
decreases-members l = length l.members - l.at
