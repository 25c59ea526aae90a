-- What `decimal` writes is a number of JSON, also past 64 bits.
use Rattle.std.proofs.lemmas.Grind.{common_steps}
use Rattle.std.proofs.Common.{◌≡◌, ℕ, suc, ◌+◌, ◌%◌, ◌^◌, ◌<◌, ◌≤◌, false, cond, ◌==◌, List, [], ◌∷◌, length, drop, get_or, Some}
use Rattle.std.proofs.{Common.{option_and_then, decimal, refl, ap, ◌∙◌, arith, length-append}, lemmas.Bool.{ne_eqb, le-leb, and_from}}
use Rattle.std.proofs.lemmas.{List.drop_all, Fmt.{decimal_is_IsNumeral_wide, decimal_digit, decimal_by_steps_wide}, Str.Parse.digit_at}
use lib.ListN.{get_or-append}
use Rattle.std.specs.{List.prefix_len, Char.is_ascii_digit}
use Rattle.json.specs.{Word.{head, after_whole, after_fraction, after_exponent, after_number}, Print.IsNumber}

all_digits : (ds : List ℕ) → ((i : ℕ) → i < length ds → (48 ≤ get_or ds i 0) × (get_or ds i 0 ≤ 57))
    → prefix_len is_ascii_digit ds ≡ length ds
all_digits [] h = refl
all_digits (d ∷ ds) h =
    let first = h 0 (omega arith) in
    let rest = all_digits ds (λ i l. h (suc i) (omega arith)) in
    ap (λ b. cond b (1 + prefix_len is_ascii_digit ds) 0) (and_from _ _ (le-leb 48 d first.0) (le-leb d 57 first.1)) ∙ omega arith

whole_digits : (ds : List ℕ) → 48 < get_or ds 0 0 → prefix_len is_ascii_digit ds ≡ length ds
    → (after_whole ds ≡ Some []) × ((head ds == 45) ≡ false)
whole_digits ds first all = grind (arith, common_steps, ne_eqb, drop_all)

-- the first digit of a number above 0 is no zero
first_digit : (n : ℕ) → 0 < n → n < 10 ^ 64 → 48 < get_or (decimal n) 0 0
first_digit n some small =
    (decimal_by_steps_wide (λ m ds. (0 < length ds) × (0 < m → 48 < get_or ds 0 0)) (λ m l. (omega arith, λ a. omega arith))
    (λ m ds l h. (
      omega (arith, length-append ds ((48 + m % 10) ∷ [])),
      λ a. omega (arith, get_or-append ds ((48 + m % 10) ∷ []) 0 0 h.0, h.1 (omega arith)),
    )) n small).1 some

whole_decimal : (n : ℕ) → n < 10 ^ 64 → (after_whole (decimal n) ≡ Some []) × ((head (decimal n) == 45) ≡ false)
whole_decimal n h =
    grind (arith, common_steps, decimal_digit, whole_digits, first_digit, all_digits, digit_at, decimal_is_IsNumeral_wide)

-- a decimal that is not too long is a number of JSON
pub IsNumber-decimal : (n : ℕ) → n < 10 ^ 64 → IsNumber (decimal n)
unfolding after_number
IsNumber-decimal n h =
    let w = whole_decimal n h in
    ap (λ o. option_and_then after_exponent (option_and_then after_fraction o))
    (ap (λ b. after_whole (cond b (drop 1 (decimal n)) (decimal n))) w.1 ∙ w.0)
