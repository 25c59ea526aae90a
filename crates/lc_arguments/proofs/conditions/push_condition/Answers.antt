use Rattle.std.proofs.Common.{rules, ◌≡◌, ◌∙◌, true, false, ap, map, sym}
use Rattle.lc_sheet.specs.Conditions.{ConditionModel}
use Rattle.lc_arguments.specs.ConditionWords.{is_change}
use Rattle.lc_arguments.proofs.ConditionsRead.{on_change, on_files, unchanged}
use Rattle.lc_arguments.proofs.conditions.push_condition.Goals.{in-Change, in_default-matches}
use Rattle.lc_arguments.proofs.conditions.push_condition.Goals as goal

pub returns-then-matches : goal.returns-then-matches
returns-then-matches c =
    let change : is_change c.in-Some.condition.column ≡ true = elim c.match-matches.branch [
      | in-Change w ↦ ap is_change (ap (λ (m : ConditionModel). m.column) (sym c.condition.view_is) ∙ w.in-Change.is)
      | in_default-matches w ↦ cc
    ] in
    let all = on_change (map (λ attribute. attribute.now) c.args.attributes.now) c.args.text.now c.args.changes c.in-Some.condition
    c.args.conditions.now.items (rw (c.in-Some.is, c.as_bytes.ensures.value) at (sym c.condition_of.ensures)) change in
    (all.0, c.kinds_without.ensures ∙ all.1, all.2)

pub returns-in-Ok : goal.returns-in-Ok
returns-in-Ok c =
    let other : is_change c.in-Some.condition.column ≡ false = elim c.match-matches.branch [
      | in-Change w ↦ cc
      | in_default-matches w ↦ search (rules, unchanged)
    ] in
    let all = on_files (map (λ attribute. attribute.now) c.args.attributes.now) c.args.text.now c.args.changes c.in-Some.condition
    c.args.conditions.now.items (rw (c.in-Some.is, c.as_bytes.ensures.value) at (sym c.condition_of.ensures)) other in
    (c.in-Ok.ensures.items ∙ all.0, all.1, all.2)
