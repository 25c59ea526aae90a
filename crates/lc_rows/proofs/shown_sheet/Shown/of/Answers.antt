use Rattle.std.proofs.Common.{List, subst}
use Rattle.lc_walk.specs.TallyRows.{TallyRowModel}
use Rattle.lc_rows.specs.ShownRows.{AreShown}
use Rattle.lc_rows.proofs.shown_sheet.Shown.of.Goals as goal
use Rattle.lc_level.specs.Level.{FileLineModel}

pub returns : goal.returns
returns c =
    let options = c.args.options.now in
    let report = c.args.report.now in
    let rows = c.in_ok-rows.rows.items in
    let of_files = subst (λ (fs : List FileLineModel). AreShown options.by options.sort c.deref.result.now fs rows) c.deref-2.ensures.value
    c.in_ok-rows.ensures in
    record {
      rows = rows;
      are_rows = subst (λ (rs : List TallyRowModel). AreShown options.by options.sort rs report.files.items rows) c.deref.ensures.value
          of_files;
      is = c.in_ok-shown.ensures;
    }
