-- What a pattern is once it is read.
use Rattle.std.specs.Prelude.{Bool, true, false, List, []}
use Rattle.lc_glob.specs.Tokens.{TokenModel}

-- what stands between two separators: tokens that one segment of a path must fit, or `**`, which any run of segments does
pub data SegmentModel : Type 0 where
  plain : List TokenModel → SegmentModel
  double_star : SegmentModel

-- a pattern: a dead one matches nothing, one for directories only matches no other entry, and one that isn't anchored matches at any depth
pub record PatternModel : Type 0 where
  pub is_dead : Bool
  pub is_dir_only : Bool
  pub is_anchored : Bool
  pub segments : List SegmentModel

-- the one dead pattern
abbrev pub dead : PatternModel
dead = record { is_dead = true; is_dir_only = false; is_anchored = false; segments = [] }
