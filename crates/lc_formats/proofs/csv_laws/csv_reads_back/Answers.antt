use Rattle.lc_formats.proofs.RecordsRead.{records_law}
use Rattle.lc_formats.proofs.csv_laws.csv_reads_back.Goals as goal

pub returns : goal.returns
returns c = records_law
