use Rattle.std.proofs.{Common.{rules, [], ◌∷◌}, lemmas.{Bool.Decides.Decides-eqb, Slice.Eq.strip_prefix_is}}
use Rattle.lc_glob.specs.Bytes.{slash}
use Rattle.lc_level.proofs.PathNames.{none_below, name_below}
use Rattle.lc_level.proofs.paths.relative_to.Goals as goal

pub returns-in_default : goal.returns-in_default
returns-in_default c =
    none_below c.args.directory.now c.args.path.now c.strip_prefix.result (search rules) (search rules)
    (strip_prefix_is Decides-eqb _ _ _ c.strip_prefix.ensures.cases)

pub returns : goal.returns
returns c =
    name_below c.args.directory.now c.args.path.now c.strip_prefix.result c.in-Some.below (search rules) c.in-Some.is
    (strip_prefix_is Decides-eqb _ _ _ c.strip_prefix.ensures.cases) c.strip_prefix-2.result
    (strip_prefix_is Decides-eqb _ (slash ∷ []) _ c.strip_prefix-2.ensures.cases)
