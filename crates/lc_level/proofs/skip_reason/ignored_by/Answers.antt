use Rattle.lc_level.proofs.Ignoring.{by_ignoring}
use Rattle.lc_level.proofs.skip_reason.ignored_by.Goals as goal

pub returns-in-Ignored : goal.returns-in-Ignored
returns-in-Ignored c =
    by_ignoring c.in_ok-source.source c.in_ok-source.rule.now c.line.result _ c.in_ok-source.ensures c.in-Ignored.ensures c.line.ensures
