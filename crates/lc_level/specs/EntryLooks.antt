-- Searches among the entries of a directory.
use Rattle.std.specs.{Prelude.{ℕ, Bool, ◌&&◌, List, bytes_eq}, List.list_any}
use Rattle.lc_tree.specs.{Kinds.{is_file, is_dir}, Listing.EntryModel}

-- whether there is a file, or a directory, of this name
abbrev pub has_file : List ℕ → List EntryModel → Bool
has_file name entries = list_any (λ e. is_file e.kind && bytes_eq e.name name) entries

abbrev pub has_dir : List ℕ → List EntryModel → Bool
has_dir name entries = list_any (λ e. is_dir e.kind && bytes_eq e.name name) entries
