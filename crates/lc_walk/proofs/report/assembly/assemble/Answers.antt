use Rattle.std.proofs.Common.{sym, subst}
use Rattle.lc_walk.specs.Assembled.{RefusesRows, IsAssembled}
use Rattle.lc_walk.proofs.Broken.{refused_rows, whole_rows}
use Rattle.lc_walk.proofs.report.assembly.assemble.Goals as goal

pub returns-in-Err : goal.returns-in-Err
returns-in-Err c =
    subst (λ l. RefusesRows l c.fault_of_tree.result) c.as_slice-rows.ensures.value
    (subst (RefusesRows c.as_slice-rows.result.now) (sym c.fault_of_tree.ensures)
    (refused_rows c.as_slice-rows.result.now c.in-Err.fault (c.some_broken.ensures.none c.if-some_broken.false)
    (c.some_broken-2.ensures.none c.if-some_broken-2.false) (c.some_broken-3.ensures.none c.if-some_broken-3.false)
    c.in-Err.ensures.torn))

pub returns : goal.returns
returns c =
    subst (λ l. IsAssembled c.args.lists c.args.tally l c.new.result) c.as_slice-rows.ensures.value (record {
      whole = whole_rows c.as_slice-rows.result.now (c.some_broken.ensures.none c.if-some_broken.false)
          (c.some_broken-2.ensures.none c.if-some_broken-2.false) (c.some_broken-3.ensures.none c.if-some_broken-3.false);
      placed = c.in-Ok.ensures.placed;
      found = c.in-Ok-findings_of.findings;
      told = c.in-Ok-findings_of.ensures;
      report = c.new.ensures;
    })
