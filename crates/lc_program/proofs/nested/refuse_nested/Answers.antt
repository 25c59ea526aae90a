use Rattle.std.proofs.Common.{inl, sym, ◌∙◌}
use Rattle.lc_program.proofs.NestedPlaces.{few_apart, left_after, none_holds, one_holds}
use Rattle.lc_program.proofs.nested.refuse_nested.Goals as goal

pub returns-then-holds-clause-nested : goal.returns-then-holds-clause-nested
returns-then-holds-clause-nested c =
    inl (one_holds c.args.places.now c.places.rest.now c.outer-item.result c.inner-item.result _ _ c.in_ok-line.line
    c.in-len2-up.len_at_least c.outer-item.is c.inner-item.is (sym c.holds.ensures ∙ c.if-holds.true) c.in_ok-line.ensures
    c.places.invariant)

pub places-preserved : goal.places-preserved
places-preserved c =
    left_after c.args.places.now c.places.rest.now c.outer-item.result c.inner-item.result _ _ c.in-len2-up.len_at_least c.outer-item.is
    c.inner-item.is (sym c.holds.ensures ∙ c.if-holds.false) c.places.invariant

pub returns-clause-apart : goal.returns-clause-apart
returns-clause-apart c = λ done.
    none_holds c.args.places.now c.requires (c.places.invariant.0 (few_apart c.places.rest.now c.in_default.len_below))
