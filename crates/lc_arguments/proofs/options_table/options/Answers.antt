use Rattle.std.proofs.Common.{refl}
use Rattle.lc_arguments.proofs.options_table.options.Goals as goal

pub returns : goal.returns
returns c = refl
