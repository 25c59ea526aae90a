-- The counts stay small.
use Rattle.std.proofs.Common.{◌≡◌, ℕ, suc, ◌+◌, ◌≤◌, ◌^◌, Bool, true, false, not, ◌&&◌, ◌||◌, List, [], ◌∷◌, length, arith, subst}
use Rattle.lc_census.specs.{declared.scan.Scan.Scan, Scan.{after, after_all, HasRoom}, Bytes.{one_if, is_lf, is_cr, is_nul}, Fed.IsSmall}

one_le : (b : Bool) → one_if b ≤ 1
one_le true = omega arith
one_le false = omega arith

and_le : (a b : Bool) → one_if (a && b) ≤ one_if a
and_le true b = one_le b
and_le false b = omega arith

and_le_right : (a b : Bool) → one_if (a && b) ≤ one_if b
and_le_right true b = omega arith
and_le_right false b = omega arith

small_after : (s : Scan) (n x : ℕ) → IsSmall s n → n + 1 ≤ 2 ^ 48 → IsSmall (after s x) (n + 1)
small_after s n x h few = record {
  lf = omega (arith, h.lf, one_le (is_lf x));
  cr = omega (arith, h.cr, one_le (is_cr x));
  blank = omega (arith, h.blank, one_le (s.is_blank && (is_cr x || (is_lf x && not s.after_cr))));
  nul = omega (arith, h.nul, one_le (is_nul x));
  crlf_of_lf = omega (arith, h.crlf_of_lf, and_le (is_lf x) s.after_cr);
  crlf_of_cr = omega (arith, h.crlf_of_cr, and_le_right (is_lf x) s.after_cr);
  few = few;
}

-- after so many bytes no count is over their number
pub small_all : (s : Scan) (n : ℕ) (xs : List ℕ) → IsSmall s n → n + length xs ≤ 2 ^ 48 → IsSmall (after_all s xs) (n + length xs)
small_all s n [] h few = let e : n ≡ n + 0 = omega arith in subst (IsSmall s) e h
small_all s n (x ∷ xs) h few =
    let e : n + 1 + length xs ≡ n + suc (length xs) = omega arith in
    subst (IsSmall (after_all s (x ∷ xs))) e (small_all (after s x) (n + 1) xs (small_after s n x h (omega arith)) (omega arith))

room_next : (s : Scan) (x n : ℕ) → HasRoom s (suc n) → HasRoom (after s x) n
room_next s x n room = (
  omega (arith, room.0, one_le (is_lf x)),
  omega (arith, room.1, one_le (is_cr x)),
  omega (arith, room.2, one_le (is_lf x && s.after_cr)),
  omega (arith, room.3, one_le (s.is_blank && (is_cr x || (is_lf x && not s.after_cr)))),
  omega (arith, room.4, one_le (is_nul x)),
)

-- the room that is left after these bytes
pub room_after : (s : Scan) (xs : List ℕ) (n : ℕ) → HasRoom s (length xs + n) → HasRoom (after_all s xs) n
room_after s [] n room = let e : 0 + n ≡ n = omega arith in subst (HasRoom s) e room
room_after s (x ∷ xs) n room =
    let e : suc (length xs) + n ≡ suc (length xs + n) = omega arith in
    room_after (after s x) xs n (room_next s x (length xs + n) (subst (HasRoom s) e room))
