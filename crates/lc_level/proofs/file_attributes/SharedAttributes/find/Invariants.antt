use Rattle.std.proofs.Common.{◌≢◌, map, take}
use Rattle.std.specs.{Arc.arc_value, List.All}
use Rattle.lc_level.specs.FileAttributes.{attributes_with}
use Rattle.lc_rules.specs.Models.{state_model}
use Rattle.lc_level.proofs.file_attributes.SharedAttributes.find.Given as goal

abbrev pub invariant-loop-known : goal.invariant-loop-known
invariant-loop-known l =
    All (λ known. arc_value known ≢ attributes_with l.text (map state_model l.asked)) (take l.known-index l.self.kept.items)
