-- What a census keeps of the bytes that it was fed.
use Rattle.std.specs.Prelude.{◌≡◌, ℕ, ◌+◌, ◌≤◌, ◌^◌, Bool, false, not, List, [], ◌∷◌, length}
use Rattle.lc_census.specs.{declared.scan.Scan.Scan, Scan.{start, after_all}, Bytes.{is_end, one_if}}

pub record CensusModel : Type 0 where
  pub scan : Scan
  pub bytes : ℕ
  pub has_rest : Bool

-- whether a rest comes after the last line end, once these bytes are fed; b is whether one came before them
abbrev pub rest_after : Bool → List ℕ → Bool
rest_after b [] = b
rest_after b (x ∷ xs) = rest_after (not (is_end x)) xs

-- the census has this state once these bytes are fed
abbrev pub LeadTo : List ℕ → CensusModel → Type 0
LeadTo bytes fed =
    fed ≡ record { scan = after_all start bytes; bytes = length bytes; has_rest = rest_after false bytes }

-- the counts of a scan of so many bytes are small
pub record IsSmall (s : Scan) (n : ℕ) : Type 0 where
  pub lf : s.lf ≤ n
  pub cr : s.cr ≤ n
  pub blank : s.blank ≤ n
  pub nul : s.nul ≤ n
  pub crlf_of_lf : s.crlf ≤ s.lf
  pub crlf_of_cr : s.crlf + one_if s.after_cr ≤ s.cr
  pub few : n ≤ 2 ^ 48
