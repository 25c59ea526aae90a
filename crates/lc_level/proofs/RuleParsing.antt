-- What was read of a rule file that is there.
use Rattle.std.proofs.Common.{◌≡◌, ℕ, Bool, true, false, List, Some, Ok}
use Rattle.lc_tree.specs.Trees.{Contents}
use Rattle.lc_level.specs.RuleReads.{MayGive, IsRead}

-- the bytes of a rule file that is there
pub read_there : (gives : Contents) (there found : Bool) (bytes : List ℕ) → found ≡ true → IsRead gives there (Ok found) bytes
    → MayGive gives there (Some (Ok bytes))
read_there gives there true bytes e read = read
read_there gives there false bytes e read = cc
