use Rattle.std.proofs.Common.{◌≡◌, ◌≤◌, ◌-◌, ◌++◌, ℕ, List, length, take}
use Rattle.lc_glob.specs.{Above.names_of, Path.segments_of}
use Rattle.lc_rules.specs.Above.{AreCut}
use Rattle.lc_rules.proofs.directories_above.cut_names.Given as goal

abbrev pub invariant-names : goal.invariant-names
invariant-names l = record {
  front : List ℕ;
  whole : l.path ≡ front ++ l.rest;
  closed : (rest : List ℕ) → segments_of (front ++ rest) ≡ names_of (take l.count l.names) ++ segments_of rest;
  within : l.count ≤ length l.names;
  names_len : length l.names ≡ length l.initial.names;
  ends_len : length l.ends ≡ length l.initial.ends;
  cut : AreCut l.path l.ends l.names l.count;
}

abbrev pub decreases-names : goal.decreases-names
decreases-names l = length l.names - l.count
