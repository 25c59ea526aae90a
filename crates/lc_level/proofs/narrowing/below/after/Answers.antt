use Rattle.std.proofs.lemmas.{Bool.Decides.Decides-eqb, Slice.Eq.strip_prefix_is}
use Rattle.lc_level.proofs.AskedPaths.{after_cut}
use Rattle.lc_level.proofs.narrowing.below.after.Goals as goal

pub returns : goal.returns
returns c =
    after_cut c.args.front.now c.args.text.now c.strip_prefix.result
    (strip_prefix_is Decides-eqb c.args.text.now c.args.front.now c.strip_prefix.result c.strip_prefix.ensures.cases)
