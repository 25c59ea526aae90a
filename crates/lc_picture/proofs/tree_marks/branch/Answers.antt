use Rattle.std.proofs.Common.{sym, ap}
use lib.Utf8.{encode}
use Rattle.lc_picture.specs.TreeMarks.{branch}
use Rattle.lc_picture.proofs.tree_marks.branch.Goals as goal

pub returns-then-goes_on : goal.returns-then-goes_on
unfolding encode
returns-then-goes_on c = sym (ap branch c.if-goes_on.true)

pub returns-else-goes_on : goal.returns-else-goes_on
unfolding encode
returns-else-goes_on c = sym (ap branch c.if-goes_on.false)
