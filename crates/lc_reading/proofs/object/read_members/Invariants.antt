use Rattle.std.proofs.Common.{length}
use Rattle.lc_reading.proofs.ObjectsRead.{MembersSoFar}
use Rattle.lc_reading.proofs.object.read_members.Given as goal

abbrev pub invariant-members : goal.invariant-members
invariant-members l = MembersSoFar l.attributes l.object l.initial.reader l.reader

abbrev pub decreases-members : goal.decreases-members
decreases-members l = length l.reader
