use Rattle.std.proofs.Common.{subst, sym}
use Rattle.lc_changes.proofs.FilesCompared.{files_compared}
use Rattle.lc_changes.specs.FileChanges.{AreByPath}
use Rattle.lc_changes.proofs.files.compared_files.Goals as goal

pub returns : goal.returns
returns c =
    files_compared c.args.olds.now c.args.news.now c.deref.result.now c.deref-2.result.now c.in_ok-files.files.items
    (subst (AreByPath c.args.olds.now) (sym c.deref.ensures.value) c.in_ok-olds.ensures)
    (subst (AreByPath c.args.news.now) (sym c.deref-2.ensures.value) c.in_ok-news.ensures) c.in_ok-files.ensures
