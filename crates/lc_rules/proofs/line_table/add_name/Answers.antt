use Rattle.std.proofs.Common.{refl}
use Rattle.lc_rules.proofs.{NameKeys.{kept, inserted}, DecisionLaws.bytes_self}
use Rattle.lc_rules.proofs.line_table.add_name.Goals as goal

pub returns-clause-keeps : goal.returns-clause-keeps
returns-clause-keeps c = λ n h. kept c.in_ok-added.added c.args.names.now c.insert.new.self c.in_ok-insert.ensures.updates n h

pub returns-clause-adds : goal.returns-clause-adds
returns-clause-adds c = inserted c.in_ok-added.added c.args.name.now c.args.names.now c.insert.new.self
    (c.in_ok-added.ensures.items_if_clones_equal (λ x y e. e)) c.in_ok-insert.ensures.updates c.args.name.now
    (bytes_self c.args.name.now c.args.name.now refl)
