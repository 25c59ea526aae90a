use Rattle.std.proofs.{Common.{◌≤◌, arith, length, take, None}, lemmas.List.{length-take-le, get_or-replicate}}
use Rattle.lc_glob.specs.Above.{names_of}
use Rattle.lc_rules.proofs.AboveRules.{decided_above, decided_own}
use Rattle.lc_rules.proofs.directories_above.DirectoriesAbove.of.Goals as goal

pub decide-count-requires-clause-unknown : goal.decide-count-requires-clause-unknown
decide-count-requires-clause-unknown c = λ k low.
    get_or-replicate 256 k None None
    (omega (
      arith,
      low,
      length-take-le c.cut_names-len.result.0 c.cut_names-len.new.names
          (omega (arith, c.cut_names-len.ensures.within, c.cut_names-len.ensures.names_len)),
      c.cut_names-len.ensures.within,
    ))

pub invariant_of-result : goal.invariant_of-result
invariant_of-result c =
    let len = c.cut_names-len.result.0 in
    let names = c.cut_names-len.new.names in
    let room : len ≤ length names = omega (arith, c.cut_names-len.ensures.within, c.cut_names-len.ensures.names_len) in
    let few = length-take-le len names room in (
      omega (arith, c.decide-count.ensures.within, c.cut_names-len.ensures.within, few),
      (
        decided_above _ c.args.path.now c.cut_names-len.new.ends names len c.decide-count.result.0 c.decide-count.new.found room
            (omega (arith, c.decide-count.ensures.within, few)) c.cut_names-len.ensures.cut c.decide-count.ensures.decided,
        (
          λ whole. decided_own _ c.args.path.now (names_of (take len names)) c.args.is_dir c.decide-count.result.1
              (c.cut_names-len.ensures.all whole)
              c.decide-count.ensures.own,
          tt,
        ),
      ),
    )
