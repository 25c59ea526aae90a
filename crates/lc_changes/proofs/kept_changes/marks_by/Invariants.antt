use Rattle.std.proofs.Common.{◌≡◌, take}
use Rattle.lc_changes.specs.KeptChanges.{marks_by}
use Rattle.lc_changes.proofs.kept_changes.marks_by.Given as goal

abbrev pub invariant-loop-file : goal.invariant-loop-file
invariant-loop-file l = l.marks.items ≡ marks_by l.pairs (take l.file-index l.files)
