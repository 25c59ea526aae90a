use Rattle.std.proofs.Common.{◌≡◌, [], ◌∷◌, ◌++◌, refl, rules, subst}
use Rattle.std.specs.Arc.{arc_value}
use Rattle.lc_level.specs.declared.fault_word.FaultWord.{FaultWord}
use Rattle.lc_level.proofs.CountedMore.{adds_fault, adds_file}
use Rattle.lc_level.proofs.level_reader.LevelReader.count_named.Goals as goal

pub returns-in_ok-push-in-Ok-count_at-clause-counted : goal.returns-in_ok-push-in-Ok-count_at-clause-counted
returns-in_ok-push-in-Ok-count_at-clause-counted g c =
    adds_file (g.T.Tree.gives c.args.self.now.tree.now) c.args.self.now.filters.now c.args.job.now c.args.name.items
    c.as_slice-path.result.now c.args.found.now (record { files = c.push.new.self; faults = c.args.found.now.faults })
    c.count_at.result (search rules) c.count_at.ensures _ (arc_value c.in_ok-attributes-in-Ok-count_at.attributes) tt (search rules)
    c.in_ok-attributes-in-Ok-count_at.ensures c.in_ok-push-in-Ok-count_at.ensures.items refl

pub returns-in_ok-push-in-Err-Fault-clause-counted : goal.returns-in_ok-push-in-Err-Fault-clause-counted
returns-in_ok-push-in-Err-Fault-clause-counted g c =
    adds_fault (g.T.Tree.gives c.args.self.now.tree.now) c.args.self.now.filters.now c.args.job.now c.args.name.items
    c.as_slice-path.result.now c.args.found.now (record { files = c.args.found.now.files; faults = c.push-in-Err-Fault.new.self })
    c.count_at.result (search rules) c.count_at.ensures c.in-Err-Fault.word tt (search rules) refl
    (subst (λ (w : FaultWord). c.push-in-Err-Fault.new.self.items ≡ c.args.found.now.faults.items
    ++ record { path = c.args.name.items; word = w } ∷ []) c.in-Err-Fault.word-is c.in_ok-push-in-Err-Fault.ensures.items)
