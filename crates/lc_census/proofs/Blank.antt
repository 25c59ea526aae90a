-- The words of one block tell where a line was blank so far.
use Rattle.std.proofs.Common.{◌≡◌, ℕ, zero, suc, ◌+◌, ◌%◌, ◌^◌, ◌<◌, Bool, true, false, ◌&&◌, ◌||◌, List, get_or, refl, sym, ap, ap₂, ◌∙◌}
use Rattle.std.proofs.{Common.arith, lemmas.Bool.or_parts, Math.Bool.{and_comm, or-false}}
use lib.Bits.{bit_and, bit_or, bit_xor}
use mir.Val.{bool_byte}
use Rattle.lc_census.specs.{Lanes.{test, xor, Bits, Marks, cr_before, blank_before}, Bytes.{is_cr, is_end, is_space}}
use Rattle.lc_census.proofs.Bits.Test.{test-and, test-or, test-xor, shl, test-shl_one, test-shl_low, test-byte_zero, test-byte_suc}
use Rattle.lc_census.proofs.Bits.Test.{test-mod, test-zero}
use Rattle.lc_census.proofs.Bits.Adder.{carry, test-add, most}

-- a shift by one, with a bit from the block before
pub shifted : (x : ℕ) (c : Bool) (p : ℕ → Bool) → Bits x p → (i : ℕ) → suc i < 64
    → test (bit_or (shl 1 x) (bool_byte c)) (suc i) ≡ p i
shifted x c p h i lt =
    test-or (shl 1 x) _ (suc i) ∙ ap₂ (λ a b. a || b) (test-shl_one i x lt) (test-byte_suc c i) ∙ or-false _
    ∙ h i (omega arith)

-- the lowest bit of a word shifted up by one, with a Bool put below
pub shifted-zero : (x : ℕ) (c : Bool) → test (bit_or (shl 1 x) (bool_byte c)) 0 ≡ c
shifted-zero x c = test-or (shl 1 x) _ 0 ∙ ap₂ (λ a b. a || b) (test-shl_low 1 0 x (omega arith) (omega arith)) (test-byte_zero c)

-- the carry into a place
carried : (st sp c : Bool) → most (st && sp) sp c ≡ (sp && (st || c))
carried true true true = refl
carried true true false = refl
carried true false true = refl
carried true false false = refl
carried false true true = refl
carried false true false = refl
carried false false true = refl
carried false false false = refl

undone : (a b c : Bool) → xor (xor (xor (xor a b) c) a) b ≡ c
undone true true true = refl
undone true true false = refl
undone true false true = refl
undone true false false = refl
undone false true true = refl
undone false true false = refl
undone false false true = refl
undone false false false = refl

module _ (v : List ℕ) (c : Bool) (ends space : ℕ)
    (hends : Marks ends is_end v) (hspace : Marks space is_space v) where
  abbrev starts : ℕ
  starts = bit_or (shl 1 ends) (bool_byte c)

  abbrev lone : ℕ
  lone = bit_and starts space

  along : (i : ℕ) → i < 64 → (test starts i || carry lone space i) ≡ blank_before c v i
  unfolding blank_before carry
  along zero h = ap (λ b. b || false) (shifted-zero ends c) ∙ or-false c
  along (suc i) h =
      ap₂ (λ a b. a || b) (shifted ends c _ hends i h)
      (ap (λ b. most b (test space i) (carry lone space i)) (test-and starts space i) ∙ carried (test starts i) (test space i)
      (carry lone space i)
      ∙ ap₂ (λ a b. a && b) (hspace i (omega arith)) (along i (omega arith)))
      ∙ ap (λ b. is_end (get_or v i 0) || b) (and_comm (is_space (get_or v i 0)) (blank_before c v i))

  -- a bit of this word says whether the line is blank before that byte
  pub blank_bits : Bits (bit_or starts (bit_xor (bit_xor ((lone + space) % 2 ^ 64) lone) space)) (blank_before c v)
  blank_bits i h =
      test-or starts _ i
      ∙ ap (λ b. test starts i || b)
      (test-xor _ space i
      ∙ ap (λ b. xor b (test space i)) (test-xor _ lone i ∙ ap (λ b. xor b (test lone i))
      (test-mod (lone + space) i h ∙ test-add lone space i))
      ∙ undone (test lone i) (test space i) (carry lone space i))
      ∙ along i h

-- a bit of this word says whether a carriage return stands before that byte
pub cr_bits : (v : List ℕ) (c : Bool) (cr : ℕ) → Marks cr is_cr v → Bits (bit_or (shl 1 cr) (bool_byte c)) (cr_before c v)
unfolding cr_before
cr_bits v c cr h zero lt = shifted-zero cr c
cr_bits v c cr h (suc i) lt = shifted cr c _ h i lt

-- where no byte passes one test or another, none passes either
pub none_marked : (x : ℕ) (p q : ℕ → Bool) (v : List ℕ) → Marks x (λ y. p y || q y) v → x ≡ 0 → Marks 0 p v × Marks 0 q v
none_marked x p q v marks none = (
  (λ i h. test-zero i ∙ sym (or_parts (p (get_or v i 0)) (q (get_or v i 0)) (neither i h)).0),
  (λ i h. test-zero i ∙ sym (or_parts (p (get_or v i 0)) (q (get_or v i 0)) (neither i h)).1),
)
  where
    neither : (i : ℕ) → i < 64 → (p (get_or v i 0) || q (get_or v i 0)) ≡ false
    neither i h = sym (marks i h) ∙ ap (λ n. test n i) none ∙ test-zero i
