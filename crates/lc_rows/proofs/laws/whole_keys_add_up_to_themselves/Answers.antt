use Rattle.lc_rows.proofs.RowLaws.{whole_law}
use Rattle.lc_rows.proofs.laws.whole_keys_add_up_to_themselves.Goals as goal

pub returns : goal.returns
returns c = whole_law
