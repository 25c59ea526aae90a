use Rattle.lc_reading.proofs.WordTables.{value_found}
use Rattle.lc_reading.proofs.top_member.value_name.Goals as goal

pub returns : goal.returns
returns c = value_found c.args.key.now c.first_name.result c.first_name.ensures
