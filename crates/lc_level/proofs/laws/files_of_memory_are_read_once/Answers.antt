use Rattle.lc_tree.specs.OneAnswer.{content_at}
use Rattle.lc_level.proofs.ReadOnce.{counts_once, reads_rules_once}
use Rattle.lc_level.proofs.laws.files_of_memory_are_read_once.Goals as goal

pub returns : goal.returns
returns c = record {
  counts = λ top path a b short. counts_once (content_at top path) a b short c.bytes_have_one_cutting.ensures;
  rules = λ top path. reads_rules_once (content_at top path);
}
