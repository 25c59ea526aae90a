use Rattle.lc_rules.proofs.LowestFile.{empty_file, lowest_file}
use Rattle.lc_rules.proofs.laws.the_lowest_file_is_overridden.Goals as goal

pub returns-clause-lowest : goal.returns-clause-lowest
returns-clause-lowest c = lowest_file

pub returns-clause-empty : goal.returns-clause-empty
returns-clause-empty c = empty_file
