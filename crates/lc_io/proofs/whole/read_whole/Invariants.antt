use Rattle.std.proofs.Common.{◌≤◌, ◌+◌, ◌-◌, length, vec_len}
use Rattle.lc_io.specs.Reads.{AnyRoom, GivesBytes, at_neither}
use Rattle.lc_io.proofs.whole.read_whole.Given as goal

abbrev pub decreases-reads : goal.decreases-reads
decreases-reads g l = l.fn.limit + 1 - vec_len l.bytes

abbrev pub invariant-reads : goal.invariant-reads
invariant-reads g l = record {
  within : length l.bytes.items ≤ l.fn.limit;
  given : GivesBytes g.S.Source.may_give AnyRoom l.initial.reader l.bytes.items at_neither l.reader;
}
