use Rattle.std.proofs.Common.{◌∙◌}
use Rattle.lc_glob.proofs.TokenLists.{model_least}
use Rattle.lc_glob.proofs.element.TokenElement.least_bytes.Goals as goal

pub returns : goal.returns
returns c = c.count_tokens.ensures ∙ model_least c.args.tokens.now
