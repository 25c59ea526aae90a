use Rattle.std.proofs.Common.{arith}
use Rattle.lc_glob.specs.{Above.names_of, Views.{segments_ref_model, tokens_ref_model}}
use Rattle.lc_glob.proofs.{Above.{matched_star, matched_plain, star_cost, plain_cost, names_length}, Ends.{end_segment, end_double}}
use Rattle.lc_glob.proofs.match_above.match_above.Goals as goal

pub returns-in-DoubleStar-clause-set : goal.returns-in-DoubleStar-clause-set
returns-in-DoubleStar-clause-set c =
    let len = names_length c.args.names.names.now in
    matched_star (segments_ref_model c.in-Some.front) (names_of c.args.names.names.now) c.lead_above.new.flags c.spread.new.flags
    (omega (arith, len, c.requires, c.lead_above.ensures.len))
    (omega (arith, len, c.requires, c.lead_above.ensures.len, c.spread.ensures.len))
    c.lead_above.ensures.set _ (end_double _ _ _ c.in-Some.ensures c.in-DoubleStar.is) c.spread.ensures.set

pub returns-in-Plain-clause-set : goal.returns-in-Plain-clause-set
returns-in-Plain-clause-set c =
    let len = names_length c.args.names.names.now in
    matched_plain (segments_ref_model c.in-Some.front) (names_of c.args.names.names.now) c.lead_above.new.flags c.keep.new.flags
    (omega (arith, len, c.requires, c.lead_above.ensures.len))
    (omega (arith, len, c.requires, c.lead_above.ensures.len, c.keep.ensures.len))
    c.lead_above.ensures.set _ (tokens_ref_model c.in-Plain.tokens) (end_segment _ _ _ _ c.in-Some.ensures c.in-Plain.is)
    c.keep.ensures.set

pub returns-in-DoubleStar-clause-cost : goal.returns-in-DoubleStar-clause-cost
returns-in-DoubleStar-clause-cost c =
    star_cost _ (segments_ref_model c.in-Some.front) (names_of c.args.names.names.now) _ _
    (end_double _ _ _ c.in-Some.ensures c.in-DoubleStar.is) c.lead_above.ensures.cost

pub returns-in-Plain-clause-cost : goal.returns-in-Plain-clause-cost
returns-in-Plain-clause-cost c =
    plain_cost _ (segments_ref_model c.in-Some.front) (tokens_ref_model c.in-Plain.tokens) (names_of c.args.names.names.now) _ _ _
    (end_segment _ _ _ _ c.in-Some.ensures c.in-Plain.is) c.lead_above.ensures.cost c.keep.ensures.cost
