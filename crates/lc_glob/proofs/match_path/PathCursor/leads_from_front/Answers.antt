use Rattle.std.proofs.Common.{inl, inr, ap, ◌≤◌, arith, length}
use Rattle.lc_glob.specs.{Views.segments_ref_model, Path.segments_left}
use Rattle.lc_glob.proofs.Cost.{full_parts, across_cost, name_cost, name_reserve, block_cost, end_cost}
use Rattle.lc_glob.proofs.Striding.{at_double, at_name, at_block, covers_name, shorter}
use Rattle.lc_glob.proofs.match_path.PathCursor.leads_from_front.Goals as goal

pub steps-init : goal.steps-init
steps-init c = record {
  same = (λ h. inl h, λ w. elim w [ inl h ↦ h | inr l ↦ absurd l ]);
  covers = tt;
  here_within = omega arith;
  double_within = tt;
  left_within = omega arith;
  within_reserve = omega arith;
  cost = omega (arith, full_parts (segments_ref_model c.args.self.segments) (segments_left c.args.self.left.rest));
}

pub steps-preserved-in-DoubleStar : goal.steps-preserved-in-DoubleStar
steps-preserved-in-DoubleStar c =
    let inv = c.steps.invariant in
    let is = c.in-DoubleStar.ensures.is in
    let len = shorter _ _ _ is in
    let within : length (segments_ref_model c.in-DoubleStar.segments) ≤ length (segments_ref_model c.args.self.segments)
    = omega (arith, len) in
    record {
      same = at_double _ _ _ _ _ is inv.covers inv.same;
      covers = λ f. f;
      here_within = within;
      double_within = within;
      left_within = omega arith;
      within_reserve = omega arith;
      cost = across_cost _ _ _ _ _ _ _ is c.in-DoubleStar.ensures.cost inv.within_reserve inv.cost;
    }

pub steps-preserved-in-Taken : goal.steps-preserved-in-Taken
steps-preserved-in-Taken c =
    let inv = c.steps.invariant in
    let is = c.in-Taken.ensures.is in
    let len = shorter _ _ _ is.2 in
    let left_len = ap length is.3 in
    record {
      same = at_name _ _ _ _ _ _ _ _ is.2 is.3 is.4 inv.same;
      covers = covers_name _ _ _ _ _ _ _ is.2 is.3 inv.covers;
      here_within = omega (arith, len);
      double_within = inv.double_within;
      left_within = omega (arith, left_len);
      within_reserve = name_reserve _ _ _ _ _ _ _ is.2 is.3 inv.within_reserve;
      cost = name_cost _ _ _ _ _ _ _ _ _ _ is.2 is.3 c.in-Taken.ensures.cost inv.cost;
    }

pub steps-preserved : goal.steps-preserved
steps-preserved c =
    let inv = c.steps.invariant in
    let same = rw c.in-Some.is at inv.same in
    let within = rw c.in-Some.is at inv.double_within in
    let cost = rw c.in-Some.is at inv.cost in
    let next = c.in-Some-retry.ensures in
    let len = ap length next.1 in
    let segments_len = ap (λ s. length (segments_ref_model s)) next.2 in
    record {
      same = at_block _ _ _ _ _ _ _ next.1 (ap segments_ref_model next.2) c.in-Stuck.ensures.is same;
      covers = λ f. f;
      here_within = omega (arith, within, segments_len);
      double_within = omega (arith, within, segments_len);
      left_within = omega arith;
      within_reserve = omega arith;
      cost = rw next.2 (block_cost _ _ _ _ _ _ _ _ _ next.1 c.in-Stuck.ensures.cost cost);
    }

pub returns-in-Arrived-clause-cost : goal.returns-in-Arrived-clause-cost
returns-in-Arrived-clause-cost c = end_cost _ (segments_ref_model c.args.self.segments) _
    (segments_left c.args.self.left.rest) _ _ _ _ c.in-Arrived.ensures.cost c.steps.invariant.cost

pub returns-in_default-clause-cost : goal.returns-in_default-clause-cost
returns-in_default-clause-cost c = end_cost _ (segments_ref_model c.args.self.segments) _
    (segments_left c.args.self.left.rest) _ _ _ _ c.in-Stuck.ensures.cost c.steps.invariant.cost

pub returns-in_default-retry-clause-cost : goal.returns-in_default-retry-clause-cost
returns-in_default-retry-clause-cost c = end_cost _ (segments_ref_model c.args.self.segments) _
    (segments_left c.args.self.left.rest) _ _ _ _ c.in-Stuck.ensures.cost c.steps.invariant.cost
