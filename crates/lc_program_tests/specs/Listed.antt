-- The directories of a system in memory, by the file systems that a walk enters.
use Rattle.std.specs.{Prelude.{ℕ, List}, Borrow.Bor}
use Rattle.lc_tree.specs.declared.{file_systems.FileSystems.{FileSystems, TheVariants.{All, One}}, node.Node.Node}

-- the directories to walk, of the lists for walks that enter all file systems, or one alone
abbrev pub listed_by : List (Bor (List ℕ) × Node) → List (Bor (List ℕ) × Node) → FileSystems → List (Bor (List ℕ) × Node)
listed_by all one All = all
listed_by all one One = one
