use Rattle.std.proofs.Common.{◌↔◌, ◌≤◌, ◌+◌, length}
use Rattle.lc_glob.specs.{Leads.Leads, Path.segments_left, Costs.full_cost, Views.segments_ref_model}
use Rattle.lc_glob.proofs.match_path.PathCursor.leads_from_end.Given as goal

abbrev pub invariant-ends : goal.invariant-ends
invariant-ends l = record {
  same : Leads (segments_ref_model l.self.segments) (segments_left l.self.left.rest) ↔ Leads (segments_ref_model l.here.segments)
      (segments_left l.here.left.rest);
  cost : l.tests.made + full_cost (segments_ref_model l.here.segments) (segments_left l.here.left.rest)
      ≤ l.initial.tests.made + full_cost (segments_ref_model l.self.segments) (segments_left l.self.left.rest);
}

abbrev pub decreases-ends : goal.decreases-ends
decreases-ends l = length (segments_ref_model l.here.segments)
