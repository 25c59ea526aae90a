use Rattle.std.proofs.Common.{sym, ◌∷◌, []}
use Rattle.lc_glob.proofs.Items.{plain_is}
use Rattle.lc_glob.proofs.bracket.push_plain.Goals as goal

pub returns-clause-is : goal.returns-clause-is
returns-clause-is c = (
  c.in-Some-range_at.range ∷ [],
  plain_is _ _ _ _ _ (sym c.in-Some.ensures.is) c.in-Some-range_at.ensures.is,
  c.in_ok-push.ensures.items,
)
