use Rattle.std.proofs.Common.{[], ◌∷◌, sym, ◌∙◌, ap}
use Rattle.std.specs.Option.{is_some}
use Rattle.lc_glob.specs.Bytes.{slash}
use Rattle.lc_level.proofs.AskedPaths.{after_none, after_some, is_some-map}
use Rattle.lc_level.proofs.narrowing.below.stands_below.Goals as goal

pub returns-in-None : goal.returns-in-None
returns-in-None c = sym (ap is_some (after_none c.args.other.now (slash ∷ []) c.args.path.now (sym c.in-None.ensures)))

pub returns-in-Some : goal.returns-in-Some
returns-in-Some c =
    c.is_some.ensures ∙ sym (is_some-map (λ rest. rest.now) c.after-in-Some.result) ∙ ap is_some c.after-in-Some.ensures
    ∙ sym (ap is_some (after_some c.args.other.now (slash ∷ []) c.args.path.now c.in-Some.rest.now (sym c.in-Some.ensures)))
