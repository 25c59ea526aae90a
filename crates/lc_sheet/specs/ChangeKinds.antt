-- What became of files from an old report to a new one.
use Rattle.std.specs.Prelude.{Bool, ◌&&◌, true}
use Rattle.lc_sheet.specs.declared.change_kinds.ChangeKinds.{ChangeKinds}

-- files of all kinds are kept
abbrev pub all_changes : ChangeKinds
all_changes = record { added = true; changed = true; removed = true; same = true }

abbrev pub are_all_changes : ChangeKinds → Bool
are_all_changes k = k.added && k.changed && k.removed && k.same
