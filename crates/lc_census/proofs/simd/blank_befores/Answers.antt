use Rattle.lc_census.proofs.Blank.{blank_bits}
use Rattle.lc_census.proofs.simd.blank_befores.Goals as goal

pub returns : goal.returns
returns c = blank_bits c.args.v c.args.first c.args.ends c.args.space c.requires.ends c.requires.space
