use Rattle.std.proofs.Common.{sym, ap}
use lib.Utf8.{encode}
use Rattle.lc_picture.specs.TreeMarks.{trunk}
use Rattle.lc_picture.proofs.tree_marks.trunk.Goals as goal

pub returns-then-goes_on : goal.returns-then-goes_on
unfolding encode
returns-then-goes_on c = sym (ap trunk c.if-goes_on.true)
