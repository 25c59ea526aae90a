use Rattle.std.proofs.Common.{◌≡◌, map, take}
use Rattle.lc_rows.specs.ShownRows.{part_of_file}
use Rattle.lc_rows.proofs.parts.file_parts.Given as goal

abbrev pub invariant-loop-file : goal.invariant-loop-file
invariant-loop-file l = l.parts.items ≡ map (part_of_file l.by l.depth) (take l.file-index l.files)
