use Rattle.std.proofs.Common.{◌≡◌, ◌++◌, IsAscii, length, string_bytes}
use Rattle.lc_formats.specs.CellWords.{with_commas}
use Rattle.lc_formats.proofs.numbers.push_with_commas.Given as goal

abbrev pub invariant-digits : goal.invariant-digits
invariant-digits l = (string_bytes l.text ++ with_commas l.rest ≡ string_bytes l.initial.text ++ with_commas l.digits) × IsAscii l.rest

abbrev pub decreases-digits : goal.decreases-digits
decreases-digits l = length l.rest
