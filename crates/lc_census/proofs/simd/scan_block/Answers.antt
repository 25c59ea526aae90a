use Rattle.lc_census.specs.Bytes.{is_cr, is_nul}
use Rattle.lc_census.proofs.Blank.{none_marked}
use Rattle.lc_census.proofs.simd.scan_block.Goals as goal

pub scan_marks-requires-clause-cr : goal.scan_marks-requires-clause-cr
scan_marks-requires-clause-cr c =
    (none_marked c.equal_to_either.result is_cr is_nul c.args.v c.equal_to_either.ensures c.if-equal_to_either-eq0.true).0

pub scan_marks-requires-clause-nul : goal.scan_marks-requires-clause-nul
scan_marks-requires-clause-nul c =
    (none_marked c.equal_to_either.result is_cr is_nul c.args.v c.equal_to_either.ensures c.if-equal_to_either-eq0.true).1
