use Rattle.std.proofs.Common.{◌∙◌, true, is_some, ap}
use Rattle.lc_rules.specs.AttrWords.{assigns, words}
use Rattle.lc_rules.proofs.LastWords.{assigns_all}
use Rattle.lc_rules.proofs.attr_words.are_assignments.Goals as goal

pub returns : goal.returns
returns c = assigns_all (words c.args.bytes.now) true (c.words.invariant ∙ ap (λ ws. is_some (assigns ws)) c.in_default.ensures.cases)
