use Rattle.lc_text.proofs.ReadBack.{quoted_law}
use Rattle.lc_text.proofs.laws.a_shell_reads_what_was_quoted.Goals as goal

pub returns : goal.returns
returns c = quoted_law
