-- The count of a file that is shown in place of that of a directory.
use Rattle.std.proofs.Common.{◌≡◌, ℕ, List, Some, ap₂}
use Rattle.std.specs.Path.{path_file_name, path_parent}
use Rattle.lc_program.specs.Commands.{count_of_file, file_count, file_count_in, or_here}

-- that of the file's name in the directory above it
pub file_counted : (path name directory : List ℕ) → path_file_name path ≡ Some name → path_parent path ≡ Some directory
    → file_count path ≡ count_of_file name (or_here directory)
file_counted path name directory named above = ap₂ file_count_in named above
