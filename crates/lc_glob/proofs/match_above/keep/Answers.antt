use Rattle.std.proofs.Common.{rules, ◌<◌, ◌+◌, length, arith}
use Rattle.lc_glob.specs.Views.{tokens_ref_model}
use Rattle.lc_glob.proofs.Above.{at_place, name_cost, kept_more}
use Rattle.lc_glob.proofs.match_above.keep.Goals as goal

pub loop-k-preserved : goal.loop-k-preserved
loop-k-preserved c =
    let inv = c.loop-k.invariant in
    let k = c.loop-k.k in
    let names = c.args.names.names.now in
    let within : k < length names = omega (arith, c.loop-k-test.true, c.requires) in
    let low : k < length c.loop-k.flags = omega (arith, c.loop-k-test.true, inv.len) in
    let here = at_place names k c.at.result.bytes.now within c.at.ensures in
    record {
      len = search rules;
      done = kept_more (tokens_ref_model c.args.tokens) names c.args.flags.now c.loop-k.flags k c.keeps.result
          c.at.result.bytes.now here.0 low within here.1 (inv.left k (omega arith)) c.keeps.ensures.kept inv.done;
      left = search rules;
      cost = name_cost (length (tokens_ref_model c.args.tokens) + 1) names k c.at.result.bytes.now here.0 _ _ _ within
          here.1 inv.cost c.keeps.ensures.cost;
    }
