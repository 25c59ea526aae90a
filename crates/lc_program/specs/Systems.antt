-- What a system may answer about the names on a command line.
use Rattle.std.specs.Prelude.{ℕ, List, Option}
use Rattle.lc_tree.specs.{Trees.{Listings, Contents}, declared.{tree.Tree.Ghosts as TreeGhosts, file_systems.FileSystems.FileSystems}}
use Rattle.lc_program.specs.declared.{system.System.Ghosts as SystemGhosts, repository.Repository.Repository}
use Rattle.lc_program.specs.declared.unread_reason.UnreadReason.{UnreadReason}

-- what a system may answer. `list` and `give`: what listings of each path in the directory with a name, and reads of the file there, may
-- give, where all file systems are entered or one alone. `hold`: what reads of the file with a name may give. `unlist`, `unread`: why the
-- directory or the file with a name can't be read. `lie`: in which repository the directory with a name lies, below its top. `stand`: which
-- canonical path it has
pub record SystemMay : Type 1 where
  pub list : List ℕ → FileSystems → List ℕ → Listings
  pub give : List ℕ → FileSystems → List ℕ → Contents
  pub hold : List ℕ → Contents
  pub unlist : List ℕ → Option UnreadReason → Type 0
  pub unread : List ℕ → Option UnreadReason → Type 0
  pub lie : List ℕ → Option Repository → Type 0
  pub stand : List ℕ → Option (List ℕ) → Type 0

-- what a system may answer, by the definitions of its trees and its own
abbrev pub may_of : {Y T F G H : Type 0} → TreeGhosts T F → SystemGhosts Y T G H → Y → SystemMay
may_of trees own system = record {
  list = λ dir entered. trees.lists (own.tree system dir entered);
  give = λ dir entered. trees.gives (own.tree system dir entered);
  hold = own.holds system;
  unlist = own.unlists system;
  unread = own.unreads system;
  lie = own.lies system;
  stand = own.stands system;
}
