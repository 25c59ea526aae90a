use Rattle.lc_level.proofs.Examples.{top_is, census_is, names_are, unexported_are, closed_is, bad_name_is, none_is}
use Rattle.lc_level.proofs.laws.level_examples_hold.Goals as goal

pub returns : goal.returns
returns c = record {
  top = top_is c.args.alloc;
  count = census_is c.bytes_have_one_cutting.ensures;
  names = names_are c.args.alloc;
  unexported = unexported_are c.args.alloc;
  closed_there = closed_is c.args.alloc;
  bad_name_there = bad_name_is c.args.alloc;
  none_there = none_is c.args.alloc;
}
