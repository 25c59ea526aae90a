-- One block by its words is the scan of its bytes.
use Rattle.std.proofs.Common.{◌≡◌, ℕ, ◌+◌, ◌/◌, ◌^◌, ◌<◌, Bool, true, false, not, ◌&&◌, ◌||◌, ◌==◌, List, length, get_or, refl, sym, ap}
use Rattle.std.proofs.Common.{ap₂, ◌∙◌, arith}
use Rattle.std.specs.Int.RustNames.{count_ones}
use lib.Bits.{bit_and, bit_or, bit_xor, and_le_l, or_lt}
use Rattle.lc_census.specs.{declared.scan.Scan.Scan, Lanes.{xor, cr_before, blank_before, count_first, Bits, Marks}, Bytes.{is_lf, is_cr}}
use Rattle.lc_census.specs.{Bytes.{is_space, is_nul}, Scan.after_all}
use Rattle.lc_census.proofs.{Bits.Test.{test-and, test-or, test-xor, top_bit}, Counts.{ones_bits, crlf_at, blank_at, lf_all, cr_all}}
use Rattle.lc_census.proofs.Counts.{nul_all, crlf_all, blank_all, after_cr_all, is_blank_all, state_same}

lone : (l c : Bool) → xor l (l && c) ≡ (l && not c)
lone true true = refl
lone true false = refl
lone false c = refl

module _ (s : Scan) (v : List ℕ) (long : length v ≡ 64) (lf cr space nul before blank : ℕ)
    (lf_lt : lf < 2 ^ 64) (cr_lt : cr < 2 ^ 64) (space_lt : space < 2 ^ 64) (nul_lt : nul < 2 ^ 64) (blank_lt : blank < 2 ^ 64)
    (hlf : Marks lf is_lf v) (hcr : Marks cr is_cr v) (hspace : Marks space is_space v)
    (hnul : Marks nul is_nul v) (hbefore : Bits before (cr_before s.after_cr v)) (hblank : Bits blank (blank_before s.is_blank v)) where
  abbrev pub crlf : ℕ
  crlf = bit_and lf before

  abbrev pub single : ℕ
  single = bit_or cr (bit_xor lf crlf)

  abbrev pub blanks : ℕ
  blanks = bit_and blank single

  abbrev pub last : ℕ
  last = bit_or (bit_or lf cr) (bit_and blank space)

  hcrlf : Bits crlf (crlf_at s.after_cr v)
  hcrlf i h = test-and lf before i ∙ ap₂ (λ a b. a && b) (hlf i h) (hbefore i h)

  hblanks : Bits blanks (blank_at s.after_cr s.is_blank v)
  hblanks i h =
      test-and blank single i
      ∙ ap₂ (λ a b. a && b) (hblank i h)
      (test-or cr _ i ∙ ap₂ (λ a b. a || b) (hcr i h)
      (test-xor lf crlf i ∙ ap₂ xor (hlf i h) (hcrlf i h) ∙ lone (is_lf (get_or v i 0)) (cr_before s.after_cr v i)))

  crlf_lt : crlf < 2 ^ 64
  crlf_lt = omega (arith, lf_lt, and_le_l lf before)

  blanks_lt : blanks < 2 ^ 64
  blanks_lt = omega (arith, blank_lt, and_le_l blank single)

  last_lt : last < 2 ^ 64
  last_lt = or_lt 64 (bit_or lf cr) (bit_and blank space) (or_lt 64 lf cr lf_lt cr_lt) (omega (arith, blank_lt, and_le_l blank space))

  counted : (x : ℕ) (p : ℕ → Bool) (k : ℕ) → x < 2 ^ 64 → Bits x p → k + count_ones x ≡ k + count_first p (length v)
  counted x p k lt h = ap (λ n. k + n) (ones_bits 64 x p lt h ∙ ap (count_first p) (sym long))

  ends_cr : (cr / 2 ^ 63 == 1) ≡ cr_before s.after_cr v (length v)
  unfolding cr_before
  ends_cr = top_bit cr cr_lt ∙ hcr 63 (omega arith) ∙ ap (cr_before s.after_cr v) (sym long)

  ends_blank : (last / 2 ^ 63 == 1) ≡ blank_before s.is_blank v (length v)
  unfolding blank_before
  ends_blank =
      top_bit last last_lt ∙ test-or (bit_or lf cr) _ 63
      ∙ ap₂ (λ a b. a || b) (test-or lf cr 63 ∙ ap₂ (λ a b. a || b) (hlf 63 (omega arith)) (hcr 63 (omega arith)))
      (test-and blank space 63 ∙ ap₂ (λ a b. a && b) (hblank 63 (omega arith)) (hspace 63 (omega arith)))
      ∙ ap (blank_before s.is_blank v) (sym long)

  -- a state with the fields that the words of the block give is the state after its bytes
  pub block_is : (r : Scan) → r.lf ≡ s.lf + count_ones lf → r.cr ≡ s.cr + count_ones cr → r.crlf ≡ s.crlf + count_ones crlf
      → r.blank ≡ s.blank + count_ones blanks → r.nul ≡ s.nul + count_ones nul
      → r.after_cr ≡ (cr / 2 ^ 63 == 1) → r.is_blank ≡ (last / 2 ^ 63 == 1) → r ≡ after_all s v
  block_is r a b c d e f g =
      state_same r (after_all s v)
      (a ∙ counted lf _ s.lf lf_lt hlf ∙ sym (lf_all s v))
      (b ∙ counted cr _ s.cr cr_lt hcr ∙ sym (cr_all s v))
      (c ∙ counted crlf _ s.crlf crlf_lt hcrlf ∙ sym (crlf_all s v))
      (d ∙ counted blanks _ s.blank blanks_lt hblanks ∙ sym (blank_all s v))
      (e ∙ counted nul _ s.nul nul_lt hnul ∙ sym (nul_all s v))
      (f ∙ ends_cr ∙ sym (after_cr_all s v))
      (g ∙ ends_blank ∙ sym (is_blank_all s v))
