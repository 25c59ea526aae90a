use Rattle.std.proofs.{Common.{sym, subst, ◌∙◌}, lemmas.List.Elements.{All-head, All-tail}}
use Rattle.std.specs.List.{All}
use Rattle.lc_glob.specs.Lengths.{FitsSome}
use Rattle.lc_glob.proofs.Sizing.{each_fits}
use Rattle.lc_glob.proofs.lengths.Lengths.allow_each.Goals as goal

pub segments-init : goal.segments-init
segments-init c = λ names all leads. each_fits _ _ names all leads

pub segments-preserved : goal.segments-preserved
segments-preserved c = λ names all leads.
    All-tail (FitsSome c.args.self) _ _ (subst (All (FitsSome c.args.self)) c.in-Some.ensures (c.segments.invariant names all leads))

pub returns-then-not-allow_segment : goal.returns-then-not-allow_segment
returns-then-not-allow_segment c = λ names all leads.
    sym c.if-not-allow_segment.true ∙ c.allow_segment.ensures
    (All-head (FitsSome c.args.self) _ _ (subst (All (FitsSome c.args.self)) c.in-Some.ensures (c.segments.invariant names all leads)))
