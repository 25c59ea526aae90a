use Rattle.lc_formats.proofs.LineEndProofs.{line_ends_law}
use Rattle.lc_formats.proofs.table_laws.lines_end_without_blanks.Goals as goal

pub returns : goal.returns
returns c = line_ends_law
