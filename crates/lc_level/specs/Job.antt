-- A directory to be visited.
use Rattle.std.specs.Prelude.{ℕ, List}
use Rattle.lc_rules.specs.{IgnoreChains.ChainModel, AttrStates.AttrChainModel}

-- its path, its chain of ignore files, and its chain of attribute files
pub record JobModel : Type 0 where
  pub path : List ℕ
  pub ignore : ChainModel
  pub attributes : AttrChainModel
