use Rattle.std.proofs.Common.{List, drop, sym, subst, arith}
use Rattle.lc_rows.specs.RowKeys.{ShownRowModel}
use Rattle.lc_picture.specs.Small.{ArePending}
use Rattle.lc_picture.proofs.SmallRows.{one_before, one_small_more}
use Rattle.lc_picture.proofs.small_directories.smalls_of.Goals as goal

pub rows-preserved : goal.rows-preserved
rows-preserved c =
    let after : List ShownRowModel = drop c.rows.index c.args.rows.now in
    let next =
    one_before c.index-rows-index.result _ c.args.rows.now c.rows.index (omega (arith, c.rows-test.true)) c.rows.invariant.inside
    c.index-rows-index.is in
    record {
      smalls =
          one_small_more c.args.by c.args.least c.index-rows-index.result after _ c.in_ok-small.small c.rows.smalls.items
          c.push.new.self.items next c.rows.invariant.smalls (c.in_ok-small.ensures.small after c.rows.invariant.pending)
          c.in_ok-push.ensures.items;
      pending =
          subst (λ (rs : List ShownRowModel). ArePending c.args.by c.args.least rs c.next_small.new.pending.items) (sym next)
          (c.in_ok-small.ensures.pending after c.rows.invariant.pending);
      inside = omega arith;
    }
