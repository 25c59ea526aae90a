use Rattle.std.proofs.Common.{◌≡◌, ◌++◌, ◌-◌, length, List}
use Rattle.lc_glob.specs.Above.{names_of}
use Rattle.lc_rules.specs.{Above.{AreDecided, IsOwn}, IgnoreRules.RuleModel}
use Rattle.lc_rules.proofs.directories_above.decide.Given as goal

abbrev pub invariant-rules : goal.invariant-rules
invariant-rules l = record {
  newer : List RuleModel;
  whole : l.file ≡ l.rest ++ newer;
  flags_len : length l.flags ≡ length l.initial.flags;
  found_len : length l.found ≡ length l.initial.found;
  decided : AreDecided newer (names_of l.names) (length l.names - 1) l.found;
  own : IsOwn newer (names_of l.names) l.is_dir l.own;
}

abbrev pub decreases-rules : goal.decreases-rules
decreases-rules l = length l.rest
