use Rattle.std.proofs.Common.{◌≡◌, take}
use Rattle.lc_changes.proofs.file_refs.by_path.Given as goal

abbrev pub invariant-loop-file : goal.invariant-loop-file
invariant-loop-file l = l.refs.items ≡ take l.file-index l.files
