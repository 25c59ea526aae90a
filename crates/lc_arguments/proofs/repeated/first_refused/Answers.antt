use Rattle.std.proofs.{Common.{◌∙◌, not, ap, sym, take_all}, lemmas.List.Folds.list_all-map}
use Rattle.std.specs.List.{list_all}
use Rattle.lc_arguments.specs.Repeated.{is_allowed}
use Rattle.lc_arguments.proofs.Misnaming.{one_not_allowed}
use Rattle.lc_arguments.proofs.repeated.first_refused.Goals as goal

pub returns-then-not-is_allowed : goal.returns-then-not-is_allowed
returns-then-not-is_allowed c =
    sym (ap not (one_not_allowed c.args.option c.args.values.now c.loop-value.value-index _ c.loop-value-test.true
    (sym c.is_allowed.ensures ∙ c.if-not-is_allowed.true)))

pub returns : goal.returns
returns c =
    let values = c.args.values.now in
    sym (ap not (list_all-map (is_allowed c.args.option) (λ value. value.now) values
    ∙ (sym (ap (list_all (λ value. is_allowed c.args.option value.now)) (take_all c.loop-value.value-index values c.loop-value-test.false))
    ∙ c.loop-value.invariant)))
