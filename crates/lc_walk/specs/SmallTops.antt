-- Trees that one worker walks as fast as several.
use Rattle.std.specs.Prelude.{◌≤◌, ◌⊎◌, ℕ, List, length, Ok, Err}
use Rattle.lc_tree.specs.{Named.Names, declared.read_fault.ReadFault.ReadFault}

-- a directory that may have at most one name, or may not be listed
abbrev pub MayBeSmall : Names → Type 0
MayBeSmall may = ((names : List (List ℕ)) × may (Ok names) × (length names ≤ 1)) ⊎ ((f : ReadFault) × may (Err f))
