use Rattle.std.proofs.Common.{◌∙◌, Some, ap, sym}
use Rattle.lc_rules.specs.Chains.{lent}
use Rattle.lc_rules.proofs.LastRule.{file_decides}
use Rattle.lc_rules.proofs.ignore_chain.last_match_in_file.Goals as goal

pub returns-in-Some : goal.returns-in-Some
returns-in-Some c source top =
    file_decides (λ r. r.now) source (lent c.args.file.now) c.deref.result.now c.args.path.now c.args.is_dir c.last_match.result top
    (ap lent c.in-Some.is ∙ ap Some (sym c.deref.ensures)) c.last_match.ensures
