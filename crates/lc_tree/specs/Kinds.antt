-- What an entry of a directory is.
use Rattle.std.specs.Prelude.{Bool, true, false}
use Rattle.lc_tree.specs.declared.entry.Kind.{Kind, TheVariants.{File, Dir, Other}}

abbrev pub is_file : Kind → Bool
is_file File = true
is_file Dir = false
is_file (Other what) = false

abbrev pub is_dir : Kind → Bool
is_dir File = false
is_dir Dir = true
is_dir (Other what) = false
