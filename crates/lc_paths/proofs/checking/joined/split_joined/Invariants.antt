use Rattle.std.proofs.Common.{◌≡◌, ◌++◌, ℕ, List, length, false}
use Rattle.std.specs.List.{flat_map, list_any}
use Rattle.lc_glob.specs.Pieces.{pieces_of}
use Rattle.lc_paths.specs.Checks.Joined.{is_dashes}
use Rattle.lc_text.specs.Lines.{with_feed}
use Rattle.lc_paths.proofs.checking.joined.split_joined.Given as goal

abbrev pub decreases-lines : goal.decreases-lines
decreases-lines l = length l.rest

abbrev pub invariant-lines : goal.invariant-lines
invariant-lines l = record {
  front : List (List ℕ);
  whole : l.bytes ≡ flat_map with_feed front ++ l.rest;
  pieces : pieces_of 10 l.bytes ≡ front ++ pieces_of 10 l.rest;
  plain : list_any is_dashes front ≡ false;
}
