use Rattle.std.proofs.Common.{option_map}
use Rattle.lc_arguments.specs.AttributeWords.{attributes_by}
use Rattle.lc_arguments.proofs.NewNames.{one_tested_more}
use Rattle.lc_arguments.proofs.attributes.attributes_asked.Goals as goal

pub loop-text-preserved : goal.loop-text-preserved
loop-text-preserved c =
    one_tested_more (attributes_by (option_map (λ s. s.now) c.args.by)) c.args.texts.now c.loop-text.text-index _ _ _
    c.loop-text-test.true c.loop-text.invariant c.in_ok-push_tested.ensures
