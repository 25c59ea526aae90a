use Rattle.std.proofs.Common.{ap, arith, length, ◌^◌, ◌-◌}
use Rattle.lc_glob.proofs.{Sizing.names_within, candidate.Candidate.measured_from.Goals.{then-path-long, else-path-long}}
use Rattle.lc_glob.proofs.candidate.Candidate.measured_from.Goals as goal

pub invariant_of-result : goal.invariant_of-result
invariant_of-result c =
    let cut = c.split_path.ensures in
    let len = ap length c.new-whole.ensures in (
      cut,
      elim c.if-path-long.branch [
        | then-path-long w ↦ rw w.lengths-is (w.unknown-lengths.ensures _
            (names_within c.new-whole.result.bytes.now _ _ (2 ^ 64 - 1) cut (omega (arith, len, w.if-path-long.true))))
        | else-path-long w ↦ rw w.lengths-is w.of-lengths.ensures
      ],
    )
