-- Addition, one bit at a time.
use Rattle.std.proofs.Common.{◌≡◌, ℕ, zero, suc, ◌+◌, ◌/◌, ◌%◌, ◌^◌, Bool, true, false, ◌&&◌, ◌||◌, ◌==◌, refl, sym, ap, ◌∙◌, arith}
use Rattle.std.proofs.Common.{add-one}
use lib.Pow.{shr-shr}
use mir.Val.{bool_byte}
use Rattle.lc_census.specs.Lanes.{test, xor}
use Rattle.lc_census.proofs.Bits.Test.{two_bits}

abbrev pub most : Bool → Bool → Bool → Bool
most a b c = (a && b) || (xor a b && c)

-- the carry into bit i of a + b
unfoldable pub carry : ℕ → ℕ → ℕ → Bool
carry a b zero = false
carry a b (suc i) = most (test a i) (test b i) (carry a b i)

shr-suc : (n i : ℕ) → n / 2 ^ suc i ≡ n / 2 ^ i / 2
shr-suc n i = ap (λ e. n / 2 ^ e) (sym (add-one i)) ∙ sym (shr-shr n i 1)

halves : (x y c : ℕ) → (x + y + c) / 2 ≡ x / 2 + y / 2 + (x % 2 + y % 2 + c) / 2
halves x y c = omega arith

lows : (x y c : ℕ) → (x + y + c) % 2 ≡ (x % 2 + y % 2 + c) % 2
lows x y c = omega arith

carry_out : (c : Bool) (a b i : ℕ) → (a / 2 ^ i % 2 + b / 2 ^ i % 2 + bool_byte c) / 2 ≡ bool_byte (most (test a i) (test b i) c)
unfolding test
carry_out true = two_bits (λ x y. (x + y + 1) / 2 ≡ bool_byte (most (x == 1) (y == 1) true)) refl refl refl refl
carry_out false = two_bits (λ x y. (x + y + 0) / 2 ≡ bool_byte (most (x == 1) (y == 1) false)) refl refl refl refl

sum_bit : (c : Bool) (a b i : ℕ) → ((a / 2 ^ i % 2 + b / 2 ^ i % 2 + bool_byte c) % 2 == 1) ≡ xor (xor (test a i) (test b i)) c
unfolding test
sum_bit true = two_bits (λ x y. ((x + y + 1) % 2 == 1) ≡ xor (xor (x == 1) (y == 1)) true) refl refl refl refl
sum_bit false = two_bits (λ x y. ((x + y + 0) % 2 == 1) ≡ xor (xor (x == 1) (y == 1)) false) refl refl refl refl

-- a shifted sum is the sum of the shifted words, and the carry into that bit
pub add-shr : (a b i : ℕ) → (a + b) / 2 ^ i ≡ a / 2 ^ i + b / 2 ^ i + bool_byte (carry a b i)
unfolding carry
add-shr a b zero = omega arith
add-shr a b (suc i) =
    shr-suc (a + b) i ∙ ap (λ n. n / 2) (add-shr a b i) ∙ halves (a / 2 ^ i) (b / 2 ^ i) (bool_byte (carry a b i))
    ∙ (λ t. sym (shr-suc a i) t + sym (shr-suc b i) t + carry_out (carry a b i) a b i t)

-- a bit of a sum is the exclusive or of both bits and the carry into it
pub test-add : (a b i : ℕ) → test (a + b) i ≡ xor (xor (test a i) (test b i)) (carry a b i)
unfolding test
test-add a b i = ap (λ n. n == 1) (ap (λ n. n % 2) (add-shr a b i) ∙ lows (a / 2 ^ i) (b / 2 ^ i) (bool_byte (carry a b i)))
    ∙ sum_bit (carry a b i) a b i
