-- What is true of shares.
use Rattle.std.proofs.{lemmas.{Grind.common_steps, Bool.{eqb-false, ne_eqb}, Nat.{div-mul-add, div_below}}, Common.{◌≡◌, ◌<◌, ◌≤◌, ◌+◌}}
use Rattle.std.proofs.{Common.{◌*◌, ◌/◌, ℕ, Bool, true, false, ◌==◌, if◌then◌else◌, refl, arith}, Math.Nat.div-mul-le_self}
use Rattle.std.proofs.{Math.Nat.{lt-div-mul-add, mul-le-mul_left}}
use Rattle.lc_formats.specs.{ShareLaws.{NearestLaw, PartsLaw, WholeLaw}, Shares.rounded_parts}

-- of something, the quotient
some_parts : (count part whole : ℕ) → 0 < whole → rounded_parts count part whole ≡ (2 * count * part + whole) / (2 * whole)
some_parts count part whole some = grind (arith, common_steps, ne_eqb)

pub nearest_law : NearestLaw
nearest_law = grind (arith, common_steps, some_parts, div-mul-le_self, lt-div-mul-add)

pub whole_law : WholeLaw
whole_law = grind (arith, common_steps, some_parts, div-mul-add)

-- a part of a whole is at most all of its parts
pub parts_law : PartsLaw
parts_law count part whole le = at (whole == 0) refl
  where
    at : (b : Bool) → (whole == 0) ≡ b → (if b then 0 else (2 * count * part + whole) / (2 * whole)) ≤ count
    at true e = omega arith
    at false e =
        let some : whole ≡ 0 → ⊥ = eqb-false whole 0 e in
        let more = mul-le-mul_left count le in
        let below = div_below (2 * count * part + whole) (2 * whole) (count + 1) (omega arith) (omega arith) in
        omega arith
