use Rattle.lc_reports.proofs.PathsGathered.{next_gathered}
use Rattle.lc_reports.proofs.paths.paths_of.Goals as goal

pub parts-preserved : goal.parts-preserved
parts-preserved c =
    next_gathered c.parts.paths.items c.push_paths.new.paths.items _ c.deref.result.now c.parts.rest.now c.part-item.result _
    c.in-len1-up.len_at_least c.part-item.is c.deref.ensures.value c.in_ok-push_paths.ensures c.parts.invariant
