use Rattle.std.proofs.Common.{◌∙◌}
use Rattle.lc_level.proofs.ChainSteps.{top_by}
use Rattle.lc_level.proofs.job.Job.top.Goals as goal

pub returns : goal.returns
returns c =
    top_by c.args.filters.now _ _ _ _ c.new-path.ensures.items (c.in_ok-new.ensures.ok ∙ c.in_ok-ignore.ensures)
    (c.in_ok-attributes.ensures.ok ∙ c.in_ok-top_attributes.ensures) c.new-3.ensures
