-- Paths that are cut below a depth.
use Rattle.std.proofs.Common.{◌≡◌, ◌+◌, ℕ, zero, suc, List, ap, arith}
use Rattle.std.specs.List.{after_first}
use Rattle.lc_glob.specs.{Bytes.slash, Pieces.is_byte}
use Rattle.lc_rules.specs.Verdicts.{below}

-- going on from a depth to one below it
pub below_from : (depth k further : ℕ) (path : List ℕ) → further ≡ depth + k → below k (below depth path) ≡ below further path
below_from zero k n path e = let same : k ≡ n = omega (arith, e) in ap (λ m. below m path) same
below_from (suc d) k zero path e = absurd (omega (arith, e))
below_from (suc d) k (suc n) path e = below_from d k n (after_first (is_byte slash) path) (omega (arith, e))
