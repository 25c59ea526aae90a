use Rattle.std.proofs.Common.{◌≤◌, ◌-◌, length, true}
use Rattle.lc_glob.specs.Brackets.{items}
use Rattle.lc_glob.proofs.Items.{HavePushed}
use Rattle.lc_glob.proofs.bracket.push_items.Given as goal

abbrev pub invariant-items : goal.invariant-items
invariant-items l = record {
  has : HavePushed (items true 0 l.bytes) l.initial.tokens.items l.tokens.items (length l.bytes - length l.rest) l.first l.rest;
  within : length l.rest ≤ length l.bytes;
}

abbrev pub decreases-items : goal.decreases-items
decreases-items l = length l.rest
