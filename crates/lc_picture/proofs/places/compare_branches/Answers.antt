use Rattle.std.proofs.Common.{sym, ◌∙◌, arith}
use Rattle.lc_picture.proofs.Branches.{first_longer, second_longer}
use Rattle.lc_picture.proofs.places.compare_branches.Goals as goal

pub returns-then-shared-a : goal.returns-then-shared-a
returns-then-shared-a c =
    first_longer c.args.a.now c.args.b.now c.loop-level.level (omega arith) (omega arith) ∙ sym c.loop-level.invariant

pub returns-then-shared-b : goal.returns-then-shared-b
returns-then-shared-b c =
    second_longer c.args.a.now c.args.b.now c.loop-level.level (omega arith) (omega arith) ∙ sym c.loop-level.invariant
