use Rattle.std.proofs.Common.{arith}
use Rattle.lc_reading.proofs.BytesRead.{no_byte}
use Rattle.lc_reading.proofs.values.byte_of.Goals as goal

pub returns-in-Err : goal.returns-in-Err
returns-in-Err c b small is = search (arith, no_byte)
