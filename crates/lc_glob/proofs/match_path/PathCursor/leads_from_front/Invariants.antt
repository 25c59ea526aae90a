use Rattle.std.proofs.Common.{◌↔◌, ◌⊎◌, ◌+◌, ◌*◌, ◌≤◌, length}
use Rattle.lc_glob.specs.{Leads.Leads, Views.segments_ref_model, Path.segments_left}
use Rattle.lc_glob.proofs.{Cost.{straight, again, full}, Striding.{LaterOf, Covers, span, IsWithin, reserve}}
use Rattle.lc_glob.proofs.match_path.PathCursor.leads_from_front.Given as goal

abbrev pub invariant-steps : goal.invariant-steps
invariant-steps l = record {
  same : Leads (segments_ref_model l.self.segments) (segments_left l.self.left.rest) ↔
      (Leads (segments_ref_model l.here.segments) (segments_left l.here.left.rest) ⊎ LaterOf l.double_star);
  covers : Covers l.double_star (segments_ref_model l.here.segments) (segments_left l.here.left.rest);
  here_within : length (segments_ref_model l.here.segments) ≤ length (segments_ref_model l.self.segments);
  double_within : IsWithin l.double_star (length (segments_ref_model l.self.segments));
  left_within : length (segments_left l.here.left.rest) ≤ span l.double_star (length (segments_left l.self.left.rest));
  within_reserve : again (segments_ref_model l.here.segments) (segments_left l.here.left.rest) ≤ reserve l.double_star
      (again (segments_ref_model l.self.segments) (segments_left l.self.left.rest));
  cost : l.tests.made + (straight (segments_ref_model l.here.segments) (segments_left l.here.left.rest) + reserve l.double_star
      (again (segments_ref_model l.self.segments) (segments_left l.self.left.rest))) ≤ l.initial.tests.made + full
      (segments_ref_model l.self.segments) (segments_left l.self.left.rest);
}

abbrev pub decreases-steps : goal.decreases-steps
decreases-steps l =
    span l.double_star (length (segments_left l.self.left.rest)) * (length (segments_ref_model l.self.segments) + 1)
    + length (segments_ref_model l.here.segments)
