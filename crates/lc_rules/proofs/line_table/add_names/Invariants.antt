use Rattle.std.proofs.Common.{◌≡◌, ℕ, true, List, ◌||◌, length}
use Rattle.lc_rules.specs.{LineNames.{assigns_name, has_name}, WrittenLines.assigned}
use Rattle.lc_rules.proofs.line_table.add_names.Given as goal

abbrev pub invariant-words : goal.invariant-words
invariant-words l = record {
  keeps : (name : List ℕ) → has_name l.initial.names name ≡ true → has_name l.names name ≡ true;
  adds : (name : List ℕ) → assigns_name (assigned l.words) name ≡ true
      → (assigns_name (assigned l.rest) name || has_name l.names name) ≡ true;
}

abbrev pub decreases-words : goal.decreases-words
decreases-words l = length l.rest
