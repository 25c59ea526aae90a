-- What is too deep for a walk.
use Rattle.std.specs.{Prelude.{Bool, true, false, not, ◌&&◌, ◌||◌, nat_lt, List, length, Result, Ok, Err, bytes_eq, codes}, List.list_any}
use Rattle.lc_tree.specs.{Listing.EntryModel, Kinds.is_dir}
use Rattle.lc_glob.specs.Path.{path_in, depth_of, max_path, max_depth}
use Rattle.lc_level.specs.{Answers.{Item, entry_of, Items, Answers}, Job.JobModel, Level.is_kept, FaultLines.FaultLineModel}
use Rattle.lc_level.specs.{Narrowing.part_of, RuleFiles.{RuleBytes, rule_bytes, extended}, Filters.FiltersModel}

-- whether an entry is too deep: it is not `.git`, and its path has over 4,096 bytes, or over 256 segments if it is a directory that stays
abbrev pub is_too_deep : FiltersModel → JobModel → EntryModel → Bool
is_too_deep f j e =
    not (bytes_eq e.name (codes ".git"))
    && (nat_lt max_path (length (path_in j.path e.name))
    || (is_dir e.kind && is_kept f j (path_in j.path e.name) true && nat_lt max_depth (depth_of (path_in j.path e.name))))

-- whether one of the selected items is too deep, by both chains with the directory's rule files
abbrev pub some_too_deep : FiltersModel → JobModel → List Item → Result RuleBytes FaultLineModel → Bool
some_too_deep f j items (Ok files) =
    list_any (λ item. is_too_deep f (extended j files) (entry_of item)) (part_of f.only j.path items)
some_too_deep f j items (Err fault) = false

abbrev pub too_deep_among : FiltersModel → JobModel → Answers → Items → Bool
too_deep_among f j a (Ok items) = some_too_deep f j items (rule_bytes j.ignore.no_ignore j.path items a)
too_deep_among f j a (Err word) = false

-- whether a directory without an error has an entry that is too deep
abbrev pub has_too_deep : FiltersModel → JobModel → Answers → Bool
has_too_deep f j a = too_deep_among f j a a.here
