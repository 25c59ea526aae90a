use Rattle.std.proofs.Common.{rules}
use Rattle.lc_level.proofs.Leading.{whole_part}
use Rattle.lc_level.proofs.narrowing.Selection.part_of.Goals as goal

pub returns-then-self : goal.returns-then-self
returns-then-self c = whole_part c.args.self.now c.args.entries.items (search rules)
