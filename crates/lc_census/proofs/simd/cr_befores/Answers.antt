use Rattle.lc_census.proofs.Blank.{cr_bits}
use Rattle.lc_census.proofs.simd.cr_befores.Goals as goal

pub returns : goal.returns
returns c = cr_bits c.args.v c.args.first c.args.cr c.requires
