use Rattle.std.proofs.Common.{arith, sym}
use Rattle.lc_arguments.proofs.NamedReports.{unnamed}
use Rattle.lc_arguments.proofs.reports.NamedReport.of.Goals as goal

pub returns-in_default : goal.returns-in_default
returns-in_default c =
    sym (unnamed c.args.word.now (rw c.in_default.is at (c.split_once.ensures.byte (omega arith) (λ w o found. found))))
