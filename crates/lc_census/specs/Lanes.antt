-- The lanes of a vector of bytes as the bits of a word.
use Rattle.std.specs.{Prelude.{◌≡◌, ℕ, zero, suc, ◌+◌, ◌<◌, List, Bool, true, false, not, ◌&&◌, ◌||◌, ◌==◌, get_or}, Int.bit_at}
use Rattle.lc_census.specs.Bytes.{is_cr, is_end, is_space, one_if}

-- whether bit i of x is set
unfoldable pub test : ℕ → ℕ → Bool
test x i = bit_at x i == 1

-- each of the 64 bits of the word is set if p holds of its index, and only then
abbrev pub Bits : ℕ → (ℕ → Bool) → Type 0
Bits x p = (i : ℕ) → i < 64 → test x i ≡ p i

-- the bits of the word show which bytes of v pass
abbrev pub Marks : ℕ → (ℕ → Bool) → List ℕ → Type 0
Marks x p v = Bits x (λ i. p (get_or v i 0))

abbrev pub xor : Bool → Bool → Bool
xor true b = not b
xor false b = b

-- whether the byte before byte i of v is a CR, where c says it of byte 0
unfoldable pub cr_before : Bool → List ℕ → ℕ → Bool
cr_before c v zero = c
cr_before c v (suc i) = is_cr (get_or v i 0)

-- whether the line so far is blank after this byte, where c says it before
abbrev pub still_blank : Bool → ℕ → Bool
still_blank c x = is_end x || (c && is_space x)

-- whether the line so far is blank before byte i of v, where c says it of byte 0
unfoldable pub blank_before : Bool → List ℕ → ℕ → Bool
blank_before c v zero = c
blank_before c v (suc i) = still_blank (blank_before c v i) (get_or v i 0)

-- how many of the places below n pass
abbrev pub count_first : (ℕ → Bool) → ℕ → ℕ
count_first p zero = 0
count_first p (suc n) = one_if (p 0) + count_first (λ i. p (suc i)) n
