-- The scan of bytes one after another, which both bodies of a census do.
use Rattle.std.specs.Prelude.{ℕ, true, false, ◌+◌, ◌<◌, ◌^◌, List, [], ◌∷◌, not, ◌&&◌, ◌||◌}
use Rattle.lc_census.specs.{Bytes.{is_lf, is_cr, is_end, is_space, is_nul, one_if}, declared.scan.Scan.Scan}

-- the state of a scan before the first byte
abbrev pub start : Scan
start = record { lf = 0; cr = 0; crlf = 0; blank = 0; nul = 0; after_cr = false; is_blank = true }

-- the state of a scan after one more byte
abbrev pub after : Scan → ℕ → Scan
after s x = record s {
  lf = s.lf + one_if (is_lf x);
  cr = s.cr + one_if (is_cr x);
  crlf = s.crlf + one_if (is_lf x && s.after_cr);
  blank = s.blank + one_if (s.is_blank && (is_cr x || (is_lf x && not s.after_cr)));
  nul = s.nul + one_if (is_nul x);
  after_cr = is_cr x;
  is_blank = is_end x || (s.is_blank && is_space x);
}

-- the state of a scan after these bytes
abbrev pub after_all : Scan → List ℕ → Scan
after_all s [] = s
after_all s (x ∷ xs) = after_all (after s x) xs

-- n more bytes can be counted without an overflow
abbrev pub HasRoom : Scan → ℕ → Type 0
HasRoom s n =
    (s.lf + n < 2 ^ 64) × (s.cr + n < 2 ^ 64) × (s.crlf + n < 2 ^ 64) × (s.blank + n < 2 ^ 64) × (s.nul + n < 2 ^ 64)
