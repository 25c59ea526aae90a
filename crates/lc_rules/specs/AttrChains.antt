-- Chains of attribute files, as they grow.
use Rattle.std.specs.{Prelude.{ℕ, [], Option, Some, None}, declared.sync.Arc.Arc, Arc.arc_value}
use Rattle.lc_rules.specs.{AttrLines.AttrFileModel, AttrStates.AttrChainModel, Chains.{lent, with_file}}

-- the chain that has at most a lowest file
abbrev pub from_lowest : {A : Type 0} → Option (Arc AttrFileModel A) → AttrChainModel
from_lowest file = record { lowest = lent file; tree = []; info = None }

-- a chain with one more file of the tree, or the unchanged chain if there is no file
abbrev pub with_tree_file : {A : Type 0} → AttrChainModel → ℕ → Option (Arc AttrFileModel A) → AttrChainModel
with_tree_file files depth file = record { lowest = files.lowest; tree = with_file files.tree depth file; info = files.info }

-- a chain with the file of `.git/info`, or the unchanged chain if there is no file
abbrev pub with_info_file : {A : Type 0} → AttrChainModel → Option (Arc AttrFileModel A) → AttrChainModel
with_info_file files None = files
with_info_file files (Some file) = record { lowest = files.lowest; tree = files.tree; info = Some (arc_value file) }
