use Rattle.std.proofs.Common.{◌≡◌, ◌++◌, drop}
use Rattle.lc_picture.specs.Files.{large_files}
use Rattle.lc_picture.proofs.file_box.large_files.Given as goal

abbrev pub invariant-loop-file : goal.invariant-loop-file
invariant-loop-file l =
    l.boxes.items ++ large_files l.depth l.by l.least (drop l.file-index l.files) ≡ large_files l.depth l.by l.least l.files
