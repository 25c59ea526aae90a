-- Sums over files.
use Rattle.std.specs.Prelude.{◌+◌, ◌*◌, ◌-◌, ◌^◌, ◌<◌, ◌≤◌}
use Rattle.lc_walk.specs.declared.tally.sums.Sums.{Sums}
use Rattle.lc_census.specs.declared.line_count.Count.{Count}

-- the sums over no files
abbrev pub no_files : Sums
no_files = record { files = 0; lines = 0; blank = 0; bytes = 0 }

-- the sums over one file of this census
abbrev pub one_file : Count → Sums
one_file c = record { files = 1; lines = c.lines; blank = c.blank; bytes = c.bytes }

-- both sums added up
abbrev pub plus : Sums → Sums → Sums
plus a b = record {
  files = a.files + b.files;
  lines = a.lines + b.lines;
  blank = a.blank + b.blank;
  bytes = a.bytes + b.bytes;
}

-- each sum fits its type
pub record IsInRange (s : Sums) : Type 0 where
  pub files : s.files < 2 ^ 64
  pub lines : s.lines < 2 ^ 128
  pub blank : s.blank < 2 ^ 128
  pub bytes : s.bytes < 2 ^ 128

-- at most 2^63 files, with fewer than 2^64 lines, blank lines and bytes for each file on average
pub record IsModest (s : Sums) : Type 0 where
  pub files : s.files ≤ 2 ^ 63
  pub lines : s.lines ≤ s.files * (2 ^ 64 - 1)
  pub blank : s.blank ≤ s.files * (2 ^ 64 - 1)
  pub bytes : s.bytes ≤ s.files * (2 ^ 64 - 1)
