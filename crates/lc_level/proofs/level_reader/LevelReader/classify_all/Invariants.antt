use Rattle.std.proofs.Common.{◌≡◌, false}
use Rattle.std.specs.List.{flat_map, list_any}
use Rattle.lc_level.specs.{Deep.is_too_deep, Classified.{kept_file, kept_directory, skipped_entry, bytes_of}}
use Rattle.lc_level.proofs.level_reader.LevelReader.classify_all.Given as goal

abbrev pub invariant-loop-entry : goal.invariant-loop-entry
invariant-loop-entry g l =
    (goal.iterator-loop-entry g).can_next l.entry-iterator
    × (goal.iterator-loop-entry g).is_finite l.entry-iterator
    × (l.path.directory ≡ l.job.path)
    × (bytes_of l.found.files.items ≡ flat_map (kept_file l.self.filters.now l.job) l.yielded)
    × (l.found.children.items ≡ flat_map (kept_directory l.self.filters.now l.job) l.yielded)
    × (l.found.skipped.items ≡ flat_map (skipped_entry l.self.options.left_out l.self.filters.now l.job) l.yielded)
    × (list_any (is_too_deep l.self.filters.now l.job) l.yielded ≡ false)
