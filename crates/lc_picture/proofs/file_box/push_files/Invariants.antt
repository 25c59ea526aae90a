use Rattle.std.proofs.Common.{◌≡◌, ◌++◌, drop}
use Rattle.lc_picture.specs.Files.{files_in}
use Rattle.lc_picture.proofs.file_box.push_files.Given as goal

abbrev pub invariant-loop-file : goal.invariant-loop-file
invariant-loop-file l =
    l.boxes.items ++ files_in l.directory l.depth (drop l.file-index l.files)
    ≡ l.initial.boxes.items ++ files_in l.directory l.depth l.files
