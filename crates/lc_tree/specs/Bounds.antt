-- Which directories a tree of the system enters.
use Rattle.std.specs.Prelude.{ℕ, ◌==◌, not, Bool, true, false}
use Rattle.lc_tree.specs.declared.file_systems.Bounds.{Bounds, TheVariants.{Everywhere, Device, TopAlone}}
use Rattle.lc_tree.specs.declared.file_systems.FileSystems.{FileSystems, TheVariants.{All, One}}

-- whether a tree stays on one file system
abbrev pub stays : Bounds → Bool
stays Everywhere = false
stays (Device number) = true
stays TopAlone = true

-- whether a tree does not enter a directory on this device: it stays on one file system, and the device is not the top's or the top's is
-- not known
abbrev pub is_outside : Bounds → ℕ → Bool
is_outside Everywhere device = false
is_outside (Device number) device = not (device == number)
is_outside TopAlone device = true

-- whether a tree that enters these file systems stays on one file system
abbrev pub is_one : FileSystems → Bool
is_one All = false
is_one One = true
