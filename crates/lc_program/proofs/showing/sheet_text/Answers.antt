use Rattle.lc_program.proofs.Reordered.{reordered_by}
use Rattle.lc_program.proofs.showing.sheet_text.Goals as goal

pub returns-in_err-made-clause-left : goal.returns-in_err-made-clause-left
returns-in_err-made-clause-left c =
    reordered_by c.args.shown.table.sort c.args.report.now c.sort_files.new.files c.sort_files.ensures

pub returns-clause-left : goal.returns-clause-left
returns-clause-left c = reordered_by c.args.shown.table.sort c.args.report.now c.sort_files.new.files c.sort_files.ensures
