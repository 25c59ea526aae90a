use Rattle.std.proofs.Common.{map, sym, ◌∙◌, arith}
use Rattle.lc_level.proofs.Leading.{whole_by_cut, whole_else}
use Rattle.lc_level.proofs.narrowing.sorted_paths.is_within.Goals as goal

pub returns-then-is_cut_among : goal.returns-then-is_cut_among
returns-then-is_cut_among c =
    sym (whole_by_cut c.args.directory.now (map (λ path. path.now) c.args.paths.now) c.loop-at.at c.loop-at-test.true
    (sym c.if-is_cut_among.ensures))

pub returns : goal.returns
returns c =
    c.is_among.ensures
    ∙ sym (whole_else c.args.directory.now (map (λ path. path.now) c.args.paths.now)
    (λ i low. c.loop-at.invariant i (omega (arith, low, c.loop-at-test.false))))
