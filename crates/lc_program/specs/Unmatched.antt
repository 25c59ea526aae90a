-- The lines about patterns that can match nothing.
use Rattle.std.specs.{Prelude.{ℕ, cond, List, [], ◌++◌, codes, flat_map}, Borrow.Bor}
use Rattle.lc_arguments.specs.declared.filter_request.FilterRequest.{FilterRequest}
use Rattle.lc_rules.specs.CanMatch.{can_match}
use Rattle.lc_text.specs.Visible.{visible_bytes}

-- the line that says that this pattern can match nothing
abbrev pub unmatched_line : List ℕ → List ℕ
unmatched_line pattern = codes "lc: pattern '" ++ visible_bytes pattern ++ codes "' can match nothing\n"

-- the line about a pattern if it can match nothing, and else nothing
abbrev pub unmatched_text : List ℕ → List ℕ
unmatched_text pattern = cond (can_match pattern) [] (unmatched_line pattern)

-- a line for each of these patterns that can match nothing
abbrev pub unmatched_lines : List (Bor (List ℕ)) → List ℕ
unmatched_lines patterns = flat_map (λ (p : Bor (List ℕ)). unmatched_text p.now) patterns

-- a line for each pattern that can match nothing: those of `--exclude`, and then those of `--include`
abbrev pub unmatched_of : FilterRequest → List ℕ
unmatched_of e = unmatched_lines e.exclude.items ++ unmatched_lines e.include.items
