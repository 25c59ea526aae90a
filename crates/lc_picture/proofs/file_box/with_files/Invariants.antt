use Rattle.std.proofs.Common.{◌≡◌, ◌++◌, drop}
use Rattle.lc_picture.specs.Files.{with_files}
use Rattle.lc_picture.proofs.file_box.with_files.Given as goal

abbrev pub invariant-loop-directory : goal.invariant-loop-directory
invariant-loop-directory l = l.boxes.items ++ with_files l.files (drop l.directory-index l.directories) ≡ with_files l.files l.directories
