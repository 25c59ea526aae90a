use Rattle.std.proofs.Common.{◌∙◌, ◌-◌, ap, arith}
use Rattle.lc_rules.specs.Verdicts.{below}
use Rattle.lc_rules.proofs.Cuts.{below_from}
use Rattle.lc_rules.proofs.paths.PathBelow.at.Goals as goal

pub invariant_of-result-2 : goal.invariant_of-result-2
invariant_of-result-2 c =
    let further = c.args.depth - c.args.self.depth in
    record {
      cut = c.below-2.ensures ∙ ap (below further) c.args.self.cut
          ∙ below_from c.args.self.depth further c.args.depth c.args.self.path.now (omega (arith, c.if-depth-self.false));
    }
