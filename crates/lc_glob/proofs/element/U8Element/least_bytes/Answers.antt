use Rattle.std.proofs.Common.{sym, ◌∙◌}
use Rattle.lc_glob.specs.Simple.{byte_token}
use Rattle.lc_glob.proofs.Sizing.{counted_least}
use Rattle.lc_glob.proofs.element.U8Element.least_bytes.Goals as goal

pub returns : goal.returns
returns c = c.count_bytes.ensures ∙ sym (counted_least byte_token c.args.bytes.now)
